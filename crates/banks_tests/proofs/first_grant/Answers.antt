use Rattle.std.proofs.Common.{◌≡◌, ℕ, zero, suc, cond, eqb, length, Ok, Err, Result, sym, refl, ap, ◌∙◌, arith}
use Rattle.refusal.specs.declared.Refusal.{Refusal}
use Rattle.refusal.specs.declared.Refusal.TheVariants.{Frames}
use Rattle.std.proofs.lemmas.Bool.{cond-false, ne_eqb}
use Rattle.bank.specs.Model.{BankState, grant}
use Rattle.banks.specs.Memory.{whole_frames}
use Rattle.banks.specs.Frames.{fresh, flat_bank}
use Rattle.banks_tests.proofs.first_grant.Goals as goal

first_of-fresh : (n : ℕ) → (grant (fresh n)).0 ≡ cond (eqb n 0) (Err Frames) (Ok 0)
first_of-fresh zero = refl
first_of-fresh (suc n) = sym (cond-false (eqb (suc n) 0) (Err Frames) (Ok 0) (ne_eqb (suc n) 0 (omega arith)))

first_of : (n : ℕ) (m m' : BankState) (r : Result ℕ Refusal) → m ≡ fresh n → ◌≡◌ {A = Result ℕ Refusal × BankState} (r, m') (grant m) → r ≡ cond (eqb n 0) (Err Frames) (Ok 0)
first_of n m m' r e step =
    ap (λ (y : Result ℕ Refusal × BankState). y.0) step ∙ (ap (λ (x : BankState). (grant x).0) e ∙ first_of-fresh n)

pub returns : goal.returns
returns c =
    first_of (whole_frames (length c.args.memory.now))
    (flat_bank c.new.result.store.memory.now c.new.result.spares)
    _ c.grant.result c.new.ensures.model c.grant.ensures.step
