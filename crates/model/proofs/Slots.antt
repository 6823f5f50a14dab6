-- At the desktop unit a fresh frame has a free slot, and so has a frame that serves.
use Rattle.std.proofs.Common.{◌≡◌, ℕ, zero, suc, ◌<◌, true, eqb, ltb, sym, refl, subst, lit<}
use Rattle.std.proofs.lemmas.Bool.{and_parts, eqb-true, ltb-true}
use Rattle.model.specs.declared.Row.{Row}
use Rattle.model.specs.Geometry.{desktop, slots, slot_size}
use Rattle.model.specs.Masks.{set_bits}
use Rattle.model.specs.Calls.{occupied, serves}

slots_some : (class : ℕ) → 0 < slots desktop class
unfolding slot_size
slots_some zero = lit< tt
slots_some (suc zero) = lit< tt
slots_some (suc (suc zero)) = lit< tt
slots_some (suc (suc (suc zero))) = lit< tt
slots_some (suc (suc (suc (suc zero)))) = lit< tt
slots_some (suc (suc (suc (suc (suc zero))))) = lit< tt
slots_some (suc (suc (suc (suc (suc (suc class)))))) = lit< tt

none-occupied : (class home : ℕ) → occupied desktop (record { class = class; mask = 0; home = home }) ≡ 0
unfolding set_bits slot_size
none-occupied class home = refl

pub fresh-serves : (class home : ℕ) → occupied desktop (record { class = class; mask = 0; home = home }) < slots desktop class
fresh-serves class home = subst (λ n. n < slots desktop class) (sym (none-occupied class home)) (slots_some class)

pub serves-free : (class : ℕ) (row : Row) → serves desktop class row ≡ true → occupied desktop row < slots desktop row.class
serves-free class row so =
    let parts = and_parts (eqb row.class class) (ltb (occupied desktop row) (slots desktop class)) so in
    subst (λ c. occupied desktop row < slots desktop c) (sym (eqb-true row.class class parts.0))
    (ltb-true (occupied desktop row) (slots desktop class) parts.1)
