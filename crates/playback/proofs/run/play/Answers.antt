use Rattle.std.proofs.Common.{◌≡◌, vec_items, sym, ap, ◌∙◌}
use Rattle.std.proofs.Math.Path.{ap₂}
use Rattle.model.specs.Geometry.{desktop}
use Rattle.model.specs.State.{State}
use Rattle.pool.specs.View.{state_of}
use Rattle.pool.specs.Pairings.{meaning_of}
use Rattle.playback.specs.declared.line.Line.{Line}
use Rattle.playback.proofs.Walk.{left-all, told_of, telling-begins, telling-on, telling-ends}
use Rattle.playback.proofs.run.play.Goals.{in-Ok+in_ok-line-in-Ok, in-Err}
use Rattle.playback.proofs.run.play.Goals as goal

pub loop-at-init : goal.loop-at-init
loop-at-init g c =
    let all = c.new-at-items.ensures in
    telling-begins desktop (meaning_of g.P.Pairing.pairs g.P.Pairing.next) c.args.input.now (state_of g.B.Bank.model c.args.pool.now) (state_of g.B.Bank.model c.args.pool.now) (vec_items c.new-lines.result) _
    c.new-lines.ensures.items
    (left-all c.into_iter-at-iterator.result c.new-at-items.result c.args.input.now c.into_iter-at-iterator.ensures.into_iter_gives all.input all.at)

pub loop-at-preserved : goal.loop-at-preserved
loop-at-preserved g c =
    let meaning = meaning_of g.P.Pairing.pairs g.P.Pairing.next in
    let state = state_of g.B.Bank.model in
    let now = state c.loop-at.pool in
    let pair : Line → State g.row.P.Denot → Line × State g.row.P.Denot = λ line s. (line, s) in
    let told : pair c.match-found.line (state c.match-found.pool) ≡ told_of desktop meaning c.in-Some.at c.in-Some.found now =
    elim c.match-found.branch [
      | in-Ok+in_ok-line-in-Ok w ↦
          ap₂ pair w.line-is (ap state w.pool-is) ∙ w.in_ok-line-in-Ok.ensures
          ∙ ap (λ d. told_of desktop meaning c.in-Some.at d now) (sym w.in-Ok.is)
      | in-Err w ↦
          ap₂ pair (w.line-is ∙ w.tell_fault-line.ensures.line) (ap state w.pool-is ∙ w.tell_fault-line.ensures.same)
          ∙ ap (λ d. told_of desktop meaning c.in-Some.at d now) (sym w.in-Err.is)
    ] in
    telling-on desktop meaning c.args.input.now (state c.args.pool.now) now (vec_items c.loop-at.lines) _
    (vec_items c.push.new.self) c.match-found.line c.in-Some.at c.in-Some.found _ (state c.match-found.pool)
    c.in-Some.ensures.steps told c.in_ok-push.ensures.items c.loop-at.invariant

pub returns : goal.returns
returns g c =
    telling-ends desktop (meaning_of g.P.Pairing.pairs g.P.Pairing.next) c.args.input.now (state_of g.B.Bank.model c.args.pool.now) (state_of g.B.Bank.model c.loop-at.pool) (vec_items c.loop-at.lines) _
    c.in-None.ensures.steps.0 c.loop-at.invariant
