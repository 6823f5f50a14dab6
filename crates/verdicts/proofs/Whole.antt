-- Frames as a bank reads them.
use Rattle.std.proofs.Common.{◌≡◌, ℕ, ◌+◌, Bool, true, false, cond, leb, List, length, Ok, Err, Result, refl, ap, ◌∙◌, arith}
use lib.ListN.{length-replicate}
use Rattle.refusal.specs.declared.Refusal.{Refusal}
use Rattle.refusal.specs.declared.Refusal.TheVariants.{Edge, NotOut}
use Rattle.bank.specs.Tables.{peek}
use Rattle.bank.specs.Model.{BankState, read}
use Rattle.verdicts.specs.Held.{zeros, held}

length-zeros : (n : ℕ) → length (zeros n) ≡ n
unfolding zeros
length-zeros n = length-replicate n 0

abbrev Filled : Type 0
Filled = Result (Unit {0}) Refusal × List ℕ

shown : (fits out : Bool) (p q : List ℕ) → fits ≡ true → (let r : Filled = cond fits (cond out (Ok tt, p) (Err NotOut, q)) (Err Edge, q) in r.1) ≡ cond out p q
shown true true p q h = refl
shown true false p q h = refl
shown false out p q h = let z : ◌≡◌ {A = ℕ} 0 1 = cc in absurd (omega arith)

-- a read of a whole frame into a buffer of zeros leaves there what the frame holds
pub read_whole : (m : BankState) (f : ℕ) (before after : List ℕ) (r : Result (Unit {0}) Refusal) → before ≡ zeros 1024 → (r, after) ≡ read f 0 before m → after ≡ held m f
unfolding held
read_whole m f before after r empty is =
    let long : length before ≡ 1024 = ap length empty ∙ length-zeros 1024 in
    ap (λ (x : Filled). x.1) is
    ∙ shown (leb (0 + length before) 1024) (m.out f) (peek (m.bytes f) 0 (length before)) before (ap (λ n. leb (0 + n) 1024) long)
    ∙ ap (λ n. cond (m.out f) (peek (m.bytes f) 0 n) before) long
    ∙ ap (λ b. cond (m.out f) (peek (m.bytes f) 0 1024) b) empty
