-- Rows keep the laws of the elements; and what the two passes over a row come to.
use Rattle.std.specs.List.{list_all, zip}
use Rattle.std.proofs.Common.{◌≡◌, ◌&&◌, ℕ, zero, suc, ◌+◌, ◌<◌, ◌≤◌, true, eqb, List, [], ◌∷◌, ◌++◌, length, get_or, take, drop, set, replicate, is_some, Some, None, Ok, Option, unwrap_or, sym, refl, ap, ◌∙◌, subst, ap₂, arith}
use Rattle.std.proofs.lemmas.List.{drop_more, drop_all, set_at, get_or_at, length-take-le, append_assoc, append-nil, take_all, take_more}
use Rattle.std.proofs.lemmas.Bool.{cond-true, eq-eqb}
use Rattle.joining.specs.Laws.{Commutes, Groups, Leaves}
use Rattle.joining.specs.Rows.{before, rows, rows_joined, joined_or_clash}

-- each element of the first row with the join written over it, and left where it clashes
abbrev pub over : {X : Type 0} → (X → X → Option X) → List X → List X → List X
over join [] ys = []
over join (x ∷ xs) [] = x ∷ xs
over join (x ∷ xs) (y ∷ ys) = unwrap_or (join x y) x ∷ over join xs ys

module _ {X : Type 0} where
  -- a row that was put together has both parts
  pub parted : (o : Option X) (p : Option (List X)) (r : List X) → before o p ≡ Some r
      → (x : X) × (xs : List X) × (o ≡ Some x) × (p ≡ Some xs) × (r ≡ x ∷ xs)
  parted (Some x) (Some xs) r e = (x, xs, refl, refl, cc)
  parted (Some x) None r e = absurd (let z : ◌≡◌ {A = ℕ} 0 1 = cc in omega arith)
  parted None p r e = absurd (let z : ◌≡◌ {A = ℕ} 0 1 = cc in omega arith)

  both_parts : (o : Option X) (p : Option (List X)) (x : X) (xs : List X) → o ≡ Some x → p ≡ Some xs → before o p ≡ Some (x ∷ xs)
  both_parts o p x xs e f = rw (e, f) refl

  before-some : (o : Option X) (p : Option (List X)) → (is_some o && is_some p) ≡ is_some (before o p)
  before-some (Some x) (Some xs) = refl
  before-some (Some x) None = refl
  before-some None p = refl

  before_test : (o : Option X) (p : Option (List X)) → is_some o ≡ true → is_some p ≡ is_some (before o p)
  before_test (Some x) (Some xs) e = refl
  before_test (Some x) None e = refl
  before_test None p e = absurd (let z : ◌≡◌ {A = ℕ} 0 1 = cc in omega arith)

  module _ (join : X → X → Option X) where
    pub rows_commute : Commutes join → Commutes (rows join)
    rows_commute commuting [] [] r e = e
    rows_commute commuting [] (y ∷ ys) r e = absurd (let z : ◌≡◌ {A = ℕ} 0 1 = cc in omega arith)
    rows_commute commuting (x ∷ xs) [] r e = absurd (let z : ◌≡◌ {A = ℕ} 0 1 = cc in omega arith)
    rows_commute commuting (x ∷ xs) (y ∷ ys) r e =
        let p = parted (join x y) (rows join xs ys) r e in
        both_parts (join y x) (rows join ys xs) p.0 p.1
        (commuting x y p.0 p.2)
        (rows_commute commuting xs ys p.1 p.3)
        ∙ ap (λ q. Some q) (sym p.4)

    pub rows_group : Groups join → Groups (rows join)
    rows_group grouping [] [] [] ab abc p q =
        let e : ab ≡ [] = cc in ([], refl, rw e at q)
    rows_group grouping [] [] (z ∷ zs) ab abc p q =
        let e : ab ≡ [] = cc in
        let f : rows join [] (z ∷ zs) ≡ Some abc = rw e at q in
        absurd (let b : ◌≡◌ {A = ℕ} 0 1 = cc in omega arith)
    rows_group grouping [] (y ∷ ys) zs ab abc p q = absurd (let b : ◌≡◌ {A = ℕ} 0 1 = cc in omega arith)
    rows_group grouping (x ∷ xs) [] zs ab abc p q = absurd (let b : ◌≡◌ {A = ℕ} 0 1 = cc in omega arith)
    rows_group grouping (x ∷ xs) (y ∷ ys) [] ab abc p q =
        let m = parted (join x y) (rows join xs ys) ab p in
        let f : rows join (m.0 ∷ m.1) [] ≡ Some abc = subst (λ r. rows join r [] ≡ Some abc) m.4 q in
        absurd (let b : ◌≡◌ {A = ℕ} 0 1 = cc in omega arith)
    rows_group grouping (x ∷ xs) (y ∷ ys) (z ∷ zs) ab abc p q =
        let m = parted (join x y) (rows join xs ys) ab p in
        let f : rows join (m.0 ∷ m.1) (z ∷ zs) ≡ Some abc = subst (λ r. rows join r (z ∷ zs) ≡ Some abc) m.4 q in
        let n = parted (join m.0 z) (rows join m.1 zs) abc f in
        let here = grouping x y z m.0 n.0 m.2 n.2 in
        let rest = rows_group grouping xs ys zs m.1 n.1 m.3 n.3 in (
          here.0 ∷ rest.0,
          both_parts (join y z) (rows join ys zs) here.0 rest.0 here.1 rest.1,
          both_parts (join x here.0) (rows join xs rest.0) n.0 n.1 here.2 rest.2 ∙ ap (λ r. Some r) (sym n.4),
        )

    pub rows_leave : (none : X) → Leaves join none → (xs : List X) → rows join (replicate (length xs) none) xs ≡ Some xs
    rows_leave none leaving [] = refl
    rows_leave none leaving (x ∷ xs) =
        both_parts (join none x) (rows join (replicate (length xs) none) xs) x xs (leaving x) (rows_leave none leaving xs)

    -- two rows of one length join where the elements at each place do
    pub rows_join : (xs ys : List X) → length xs ≡ length ys
        → list_all (λ (p : X × X). is_some (join p.0 p.1)) (zip xs ys) ≡ is_some (rows join xs ys)
    rows_join [] [] e = refl
    rows_join [] (y ∷ ys) e = absurd (omega arith)
    rows_join (x ∷ xs) [] e = absurd (omega arith)
    rows_join (x ∷ xs) (y ∷ ys) e = ap (λ b. is_some (join x y) && b) (rows_join xs ys (omega arith)) ∙ before-some (join x y) (rows join xs ys)

    -- the first of the places from i on, and those after it
    at_place : (xs ys : List X) (i : ℕ) (d e : X) → i < length xs → i < length ys
        → rows join (drop i xs) (drop i ys) ≡ before (join (get_or xs i d) (get_or ys i e)) (rows join (drop (i + 1) xs) (drop (i + 1) ys))
    at_place xs ys i d e hx hy = ap₂ (rows join) (drop_more xs i d hx) (drop_more ys i e hy)

    -- x and y are read at the place i. Where they join, the rows from there on join exactly if the rows behind them do
    pub rows-join_more : (xs ys : List X) (i : ℕ) (x y : X) (o : Option X) → i < length xs → i < length ys
        → x ≡ get_or xs i x → y ≡ get_or ys i y → o ≡ join x y → is_some o ≡ true
        → is_some (rows join (drop i xs) (drop i ys)) ≡ is_some (rows join (drop (i + 1) xs) (drop (i + 1) ys))
    rows-join_more xs ys i x y o hx hy ex ey eo joins =
        let both : join (get_or xs i x) (get_or ys i y) ≡ o = cc in
        ap is_some (at_place xs ys i x y hx hy)
        ∙ ap (λ p. is_some (before p (rows join (drop (i + 1) xs) (drop (i + 1) ys)))) both
        ∙ sym (before_test o (rows join (drop (i + 1) xs) (drop (i + 1) ys)) joins)

    -- where the rows join, what is written over the first is the join
    pub over_joined : (xs ys r : List X) → rows join xs ys ≡ Some r → over join xs ys ≡ r
    over_joined [] [] r e = cc
    over_joined [] (y ∷ ys) r e = absurd (let z : ◌≡◌ {A = ℕ} 0 1 = cc in omega arith)
    over_joined (x ∷ xs) [] r e = absurd (let z : ◌≡◌ {A = ℕ} 0 1 = cc in omega arith)
    over_joined (x ∷ xs) (y ∷ ys) r e =
        let p = parted (join x y) (rows join xs ys) r e in
        ap₂ (λ a rest. a ∷ rest) (ap (λ o. unwrap_or o x) p.2) (over_joined xs ys p.1 p.3) ∙ sym p.4

    pub length_over : (xs ys : List X) → length (over join xs ys) ≡ length xs
    length_over [] ys = refl
    length_over (x ∷ xs) [] = refl
    length_over (x ∷ xs) (y ∷ ys) = ap suc (length_over xs ys)

    pub over_at : (xs ys : List X) (i : ℕ) (d e f : X) → i < length xs → i < length ys
        → get_or (over join xs ys) i f ≡ unwrap_or (join (get_or xs i d) (get_or ys i e)) (get_or xs i d)
    over_at [] ys i d e f hx hy = absurd (omega arith)
    over_at (x ∷ xs) [] i d e f hx hy = absurd (omega arith)
    over_at (x ∷ xs) (y ∷ ys) zero d e f hx hy = refl
    over_at (x ∷ xs) (y ∷ ys) (suc i) d e f hx hy = over_at xs ys i d e f (omega arith) (omega arith)

  -- a row that is written anew up to i, one place on
  pub anew_more : (new old : List X) (i : ℕ) (v : X) → i < length new → i < length old → v ≡ get_or new i v
      → set (take i new ++ drop i old) i v ≡ take (i + 1) new ++ drop (i + 1) old
  anew_more new old i v in-new in' is =
      ap (λ rest. set (take i new ++ rest) i v) (drop_more old i v in')
      ∙ set_at (take i new) (get_or old i v) (drop (i + 1) old) v i (length-take-le i new (omega arith))
      ∙ sym (append_assoc (take i new) (v ∷ []) (drop (i + 1) old))
      ∙ ap (λ front. front ++ drop (i + 1) old) (ap (λ w. take i new ++ w ∷ []) is ∙ sym (take_more new i v in-new))

  -- one turn of the pass that writes: y is read at the place i
  pub over_more : (join : X → X → Option X) (old ys now : List X) (i : ℕ) (d y : X) → length old ≡ length ys → i < length old
      → now ≡ take i (over join old ys) ++ drop i old → y ≡ get_or ys i y
      → set now i (unwrap_or (join (get_or now i d) y) (get_or now i d)) ≡ take (i + 1) (over join old ys) ++ drop (i + 1) old
  over_more join old ys now i d y same in' is ey =
      let new : List X = over join old ys in
      let long : length (take i new) ≡ i = length-take-le i new (omega (arith, length_over join old ys)) in
      let at : get_or now i d ≡ get_or old i d =
      ap (λ l. get_or l i d) (is ∙ ap (λ rest. take i new ++ rest) (drop_more old i d in'))
      ∙ get_or_at (take i new) (get_or old i d) (drop (i + 1) old) d i long in
      let v : X = unwrap_or (join (get_or now i d) y) (get_or now i d) in
      let value : v ≡ get_or new i v =
      ap₂ (λ p q. unwrap_or (join p q) p) at ey ∙ sym (over_at join old ys i d y v in' (omega arith)) in
      ap (λ l. set l i v) is ∙ anew_more new old i v (omega (arith, length_over join old ys)) in' value

  -- the end of the pass
  pub over_all : (join : X → X → Option X) (old ys now : List X) (i : ℕ) → length old ≤ i
      → now ≡ take i (over join old ys) ++ drop i old → now ≡ over join old ys
  over_all join old ys now i past is =
      is
      ∙ ap₂ (λ p q. p ++ q) (take_all i (over join old ys) (omega (arith, length_over join old ys))) (drop_all i old past)
      ∙ append-nil (over join old ys)

  -- the answer where every place joins
  pub answers_joined : (join : X → X → Option X) (first second : List X) → length first ≡ length second
      → is_some (rows join first second) ≡ true → (Ok tt, over join first second) ≡ rows_joined join first second
  answers_joined join first second same joins =
      sym (cond-true (eqb (length first) (length second)) _ _ (eq-eqb (length first) (length second) same)
      ∙ found (rows join first second) refl joins)
    where
      found : (o : Option (List X)) → rows join first second ≡ o → is_some o ≡ true
          → joined_or_clash o first ≡ (Ok tt, over join first second)
      found (Some r) e t = λ i. (Ok tt, sym (over_joined join first second r e) i)
      found None e t = absurd (let z : ◌≡◌ {A = ℕ} 0 1 = cc in omega arith)
