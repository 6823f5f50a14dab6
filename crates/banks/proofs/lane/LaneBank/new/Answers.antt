use Rattle.std.proofs.Common.{length, sym, ap, ◌∙◌, subst}
use Rattle.bank.specs.Sound.{Sound}
use Rattle.banks.specs.declared.lane.LaneMemory.{LaneMemory}
use Rattle.banks.specs.Memory.{lane_frames, cleared}
use Rattle.banks.proofs.Stretches.{lane_few}
use Rattle.banks.proofs.Steps.{lane_fresh, fresh_sound}
use Rattle.banks.proofs.lane.LaneBank.new.Goals as goal

pub returns : goal.returns
returns c =
    let xs = c.args.first.now in
    let ys = c.args.second.now in
    let first =
    ap (λ (s : LaneMemory). s.first.now) c.opened.ensures.store ∙
    (c.clear.ensures ∙ ap (λ n. cleared n xs) c.lane_frames-frames.ensures) in
    let second =
    ap (λ (s : LaneMemory). s.second.now) c.opened.ensures.store ∙
    (c.clear-2.ensures ∙ ap (λ n. cleared n ys) c.lane_frames-frames.ensures) in
    let model =
    lane_fresh xs ys c.opened.result.store.first.now c.opened.result.store.second.now
    c.opened.result.spares first second c.opened.ensures.list c.opened.ensures.none in
    record {
      first = first;
      second = second;
      model = model;
      sound = subst Sound (sym model) (fresh_sound (lane_frames (length xs) (length ys)) (lane_few (length xs) (length ys)));
    }
