-- Masks that share no bit.
use Rattle.std.specs.Prelude.{◌≡◌, ℕ, ◌+◌, ◌*◌, ◌/◌, ◌%◌, min, max, Some, bit_and, bit_or, refl}
use Rattle.std.proofs.Common.{sym, ap, ◌∙◌, arith}
use Rattle.std.proofs.Math.Arith.{bin_ind}
use Rattle.std.specs.Int.Bits.{and_step, or_step}
use Rattle.std.proofs.lemmas.Nat.{and_comm, or_comm, or_disjoint}
use Rattle.std.proofs.lemmas.Bool.{cond-true, eq-eqb}
use Rattle.std.proofs.lemmas.Bool.Decides.{nat_tests}
use Rattle.joining.specs.declared.kinds.Word.{Word}
use Rattle.joining.specs.Kinds.{masks_join, word_joined}
use Rattle.joining.specs.Laws.{Commutes, Groups}

-- the last digit and the others of a | b, so that and_step can be put to use
or_half : (a b : ℕ) → bit_or a b / 2 ≡ bit_or (a / 2) (b / 2)
or_half a b = omega (arith, or_step a b)

or_last : (a b : ℕ) → bit_or a b % 2 ≡ max (a % 2) (b % 2)
or_last a b = omega (arith, or_step a b)

and_or_step : (a b c : ℕ) → bit_and (bit_or a b) c ≡ bit_and (bit_or (a / 2) (b / 2)) (c / 2) * 2 + min (max (a % 2) (b % 2)) (c % 2)
and_or_step a b c = and_step (bit_or a b) c ∙ rw (or_half a b, or_last a b) refl

-- c shares no bit with a | b exactly where it shares none with a and none with b
pub apart_parts : (a b c : ℕ) → bit_and (bit_or a b) c ≡ 0 → (bit_and a c ≡ 0) × (bit_and b c ≡ 0)
apart_parts =
    bin_ind (λ (n : ℕ). (b c : ℕ) → bit_and (bit_or n b) c ≡ 0 → (bit_and n c ≡ 0) × (bit_and b c ≡ 0))
    (λ b c e. (refl, e))
    (λ n ih b c e.
    let high : bit_and (bit_or (n / 2) (b / 2)) (c / 2) ≡ 0 = omega (arith, and_or_step n b c, e) in
    let halves = ih (b / 2) (c / 2) high in
    (omega (arith, and_or_step n b c, and_step n c, halves.0, e), omega (arith, and_or_step n b c, and_step b c, halves.1, e)))

pub apart_both : (a b c : ℕ) → bit_and a c ≡ 0 → bit_and b c ≡ 0 → bit_and (bit_or a b) c ≡ 0
apart_both =
    bin_ind (λ (n : ℕ). (b c : ℕ) → bit_and n c ≡ 0 → bit_and b c ≡ 0 → bit_and (bit_or n b) c ≡ 0)
    (λ b c d e. e)
    (λ n ih b c d e.
    let high : bit_and (bit_or (n / 2) (b / 2)) (c / 2) ≡ 0 =
    ih (b / 2) (c / 2) (omega (arith, and_step n c, d)) (omega (arith, and_step b c, e)) in
    omega (arith, and_or_step n b c, and_step n c, and_step b c, high, d, e))

-- the bits of three masks that share none, taken together either way
pub or_grouped : (a b c : ℕ) → bit_and a b ≡ 0 → bit_and (bit_or a b) c ≡ 0 → bit_or (bit_or a b) c ≡ bit_or a (bit_or b c)
or_grouped a b c ab abc =
    let bc = (apart_parts a b c abc).1 in
    let a_bc : bit_and a (bit_or b c) ≡ 0 =
    and_comm a (bit_or b c) ∙ apart_both b c a (and_comm b a ∙ ab) (and_comm c a ∙ (apart_parts a b c abc).0) in
    omega (arith, or_disjoint (bit_or a b) c abc, or_disjoint a b ab, or_disjoint a (bit_or b c) a_bc, or_disjoint b c bc)

-- two words that join share no bit, and the join has the bits of either
pub word_parts : (a b r : Word) → word_joined a b ≡ Some r → (bit_and a.bits b.bits ≡ 0) × (r.bits ≡ bit_or a.bits b.bits)
word_parts a b r e = grind (arith, nat_tests)

pub word_joins : (a b r : Word) → bit_and a.bits b.bits ≡ 0 → r.bits ≡ bit_or a.bits b.bits → word_joined a b ≡ Some r
word_joins a b r apart is =
    cond-true (masks_join a.bits b.bits) _ _ (eq-eqb (bit_and a.bits b.bits) 0 apart)
    ∙ (λ i. Some (record { bits = sym is i }))

pub word_commutes : Commutes word_joined
word_commutes a b r e =
    let p = word_parts a b r e in
    word_joins b a r (and_comm b.bits a.bits ∙ p.0) (p.1 ∙ or_comm a.bits b.bits)

pub word_groups : Groups word_joined
word_groups a b c ab abc e f =
    let p = word_parts a b ab e in
    let q = word_parts ab c abc f in
    let whole : bit_and (bit_or a.bits b.bits) c.bits ≡ 0 = rw (← p.1) q.0 in
    let parts = apart_parts a.bits b.bits c.bits whole in
    let bc : Word = record { bits = bit_or b.bits c.bits } in (
      bc,
      word_joins b c bc parts.1 refl,
      word_joins a bc abc
          (and_comm a.bits (bit_or b.bits c.bits) ∙ apart_both b.bits c.bits a.bits (and_comm b.bits a.bits ∙ p.0) (and_comm c.bits a.bits ∙ parts.0))
          (q.1 ∙ ap (λ n. bit_or n c.bits) p.1 ∙ or_grouped a.bits b.bits c.bits p.0 whole),
    )
