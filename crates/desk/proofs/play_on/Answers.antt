use Rattle.std.proofs.Common.{List, ap, ◌∙◌, rules}
use Rattle.model.specs.Geometry.{desktop}
use Rattle.model.specs.State.{State, opened}
use Rattle.model.specs.Runs as runs
use Rattle.worked.proofs.Lawful.{fair-from}
use Rattle.pool.specs.View.{state_of}
use Rattle.pool.specs.Pairings.{meaning_of}
use Rattle.calls.specs.Values.{answered_by}
use Rattle.playback.specs.declared.line.Line.{Line}
use Rattle.playback.specs.Playing.{played}
use Rattle.units.specs.Performed.{Performed}
use Rattle.units.proofs.Promised.{kept}
use Rattle.desk.specs.Commands.{calls_in}
use Rattle.desk.proofs.Ends.{plays-end, calls-known}
use Rattle.desk.proofs.play_on.Goals as goal

pub returns-clause-laws : goal.returns-clause-laws
returns-clause-laws g c =
    let meaning = meaning_of g.P.Pairing.pairs g.P.Pairing.next in
    let lawful : runs.Lawful meaning = λ k masks. fair-from masks (g.P.Pairing.pairs k masks) (g.met.P.Pairing.lawful k masks) in
    let began = c.open-pool.ensures in
    let setup = c.args.setup in
    let input = c.args.input.now in
    let start = opened desktop (g.B.Bank.model setup.bank) setup.pairing setup.seed in
    let told = c.in_ok-lines.ensures ∙ ap (played desktop meaning input) began.opened in
    let last = ap (λ (x : List Line × State g.row.P.Denot). x.1) told ∙ plays-end desktop meaning 0 0 input start in
    let pair : State g.row.P.Denot → List runs.Answer × State g.row.P.Denot = λ s. ((answered_by meaning (calls_in input) start).0, s) in
    let whole : Performed meaning (g.B.Bank.model setup.bank) setup.pairing setup.seed (calls_in input) (answered_by meaning (calls_in input) start).0 (state_of g.B.Bank.model c.play.new.pool) =
    record {
      run = ap pair last;
      few = began.few;
      proper = began.proper;
      known = calls-known 0 input (λ i. search rules);
    } in
    kept lawful whole
