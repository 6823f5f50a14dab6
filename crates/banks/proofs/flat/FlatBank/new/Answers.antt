use Rattle.std.proofs.Common.{length, sym, ap, ◌∙◌, subst}
use Rattle.bank.specs.Sound.{Sound}
use Rattle.banks.specs.declared.flat.FlatMemory.{FlatMemory}
use Rattle.banks.specs.Memory.{whole_frames, cleared}
use Rattle.banks.proofs.Stretches.{whole-few}
use Rattle.banks.proofs.Steps.{flat_fresh, fresh_sound}
use Rattle.banks.proofs.flat.FlatBank.new.Goals as goal

pub returns : goal.returns
returns c =
    let before = c.args.memory.now in
    let after = c.opened.result.store.memory.now in
    let held =
    ap (λ (s : FlatMemory). s.memory.now) c.opened.ensures.store ∙
    (c.clear.ensures ∙ ap (λ n. cleared n before) c.of_bytes.ensures.value) in
    let model = flat_fresh before after c.opened.result.spares held c.opened.ensures.list c.opened.ensures.none in
    record {
      memory = held;
      model = model;
      sound = subst Sound (sym model) (fresh_sound (whole_frames (length before)) (whole-few (length before)));
    }
