use Rattle.std.proofs.Common.{◌≡◌, ℕ, ◌+◌, ◌<◌, Bool, true, false, Some, Decides, ap, ◌∙◌, arith}
use Rattle.model.specs.State.{State}
use Rattle.model.specs.Mesh.{Meaning}
use Rattle.laws.specs.Book.{Addresses}
use Rattle.pool.specs.Pairings.{meaning_of}
use Rattle.verdicts.specs.Apart.{FirstApart}
use Rattle.verdicts.specs.Hearing.{addresses_in, reading_at}
use Rattle.verdicts.proofs.Searches.{decides_of, agrees_here, differs_here}
use Rattle.verdicts.proofs.readings.reads_alike.Goals as goal

-- a label is read in pools that are as they were
module _ {C D : Type 0} (m : Meaning C) (o : Meaning D) (a b : Addresses) (s : State C) (t : State D) (k : ℕ) (below : (j : ℕ) → j < k → reading_at m s a j ≡ reading_at o t b j) (v : State C) (w : State D) (one : v ≡ s) (two : w ≡ t) (r : Bool) (d : Decides r (reading_at m v a k ≡ reading_at o w b k)) where
  decided : Decides r (reading_at m s a k ≡ reading_at o t b k)
  decided = decides_of (reading_at m v a k) (reading_at o w b k) (reading_at m s a k) (reading_at o t b k) r (ap (λ x. reading_at m x a k) one) (ap (λ x. reading_at o x b k) two) d

  alike : r ≡ true → (j : ℕ) → j < k + 1 → reading_at m s a j ≡ reading_at o t b j
  alike is = agrees_here (reading_at m s a) (reading_at o t b) k below r decided is

  unlike : k < 256 → r ≡ false → FirstApart (reading_at m s a) (reading_at o t b) 256 (Some k)
  unlike inside is = differs_here (reading_at m s a) (reading_at o t b) k below 256 r inside decided is

pub loop-label-preserved : goal.loop-label-preserved
loop-label-preserved g c =
    let inv = c.loop-label.invariant in (
      c.same_reading.ensures.one ∙ inv.0,
      c.same_reading.ensures.two ∙ inv.1,
      alike (meaning_of g.P.Pairing.pairs g.P.Pairing.next) (meaning_of g.Q.Pairing.pairs g.Q.Pairing.next) (addresses_in c.args.first_one.now) (addresses_in c.args.first_two.now)
          _ _ c.loop-label.label inv.2 _ _ inv.0 inv.1 _ c.in_ok-same_reading.ensures.same c.if-not-branch.false,
    )

pub returns-else-not-branch-clause-apart : goal.returns-else-not-branch-clause-apart
returns-else-not-branch-clause-apart g c k inside =
    let inv = c.loop-label.invariant in
    alike (meaning_of g.P.Pairing.pairs g.P.Pairing.next) (meaning_of g.Q.Pairing.pairs g.Q.Pairing.next) (addresses_in c.args.first_one.now) (addresses_in c.args.first_two.now)
    _ _ c.loop-label.label inv.2 _ _ inv.0 inv.1 _ c.in_ok-same_reading.ensures.same c.if-not-branch.false k (omega arith)

pub returns-then-not-branch-clause-apart : goal.returns-then-not-branch-clause-apart
returns-then-not-branch-clause-apart g c =
    let inv = c.loop-label.invariant in
    unlike (meaning_of g.P.Pairing.pairs g.P.Pairing.next) (meaning_of g.Q.Pairing.pairs g.Q.Pairing.next) (addresses_in c.args.first_one.now) (addresses_in c.args.first_two.now)
    _ _ c.loop-label.label inv.2 _ _ inv.0 inv.1 _ c.in_ok-same_reading.ensures.same (omega (arith, c.loop-label-test.true)) c.if-not-branch.true
