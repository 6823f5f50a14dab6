-- The walk over a list of command bytes: one command after the other.
use Rattle.std.proofs.Common.{◌≡◌, ℕ, zero, suc, ◌+◌, ◌-◌, ◌<◌, ◌≤◌, Bool, cond, eqb, leb, List, [], ◌∷◌, ◌++◌, length, get_or, drop, Ok, Err, Result, IfOk, sym, refl, ap, ◌∙◌, append_assoc, add-zero, one-add, arith, length-drop}
use Rattle.std.proofs.lemmas.List.{append-nil, drop-drop, nil_from_length}
use Rattle.std.proofs.lemmas.Bool.{cond_both, leb-true}
use Rattle.std.proofs.lemmas.Result.{IfOk-at_ok}
use Rattle.refusal.specs.declared.Refusal.{Refusal}
use Rattle.refusal.specs.declared.Refusal.TheVariants.{Command as UnknownLetter, Cut}
use Rattle.model.specs.Geometry.{Geometry, desktop}
use Rattle.model.specs.State.{State}
use Rattle.model.specs.Mesh.{Meaning}
use Rattle.model.specs.Runs as runs
use Rattle.playback.specs.declared.command.Command.{Command}
use Rattle.playback.specs.declared.command.Command.TheVariants.{Count}
use Rattle.playback.specs.declared.line.Line.{Line}
use Rattle.playback.specs.declared.list.Commands.{Commands}
use Rattle.playback.specs.Format.{operands, whole, lettered, new_command, write_command, read_command, fetch_command, place_command, delete_command, mesh_command, decoded, called}
use Rattle.playback.specs.Found.{placed, found, left_in}
use Rattle.playback.specs.Playing.{told, told_with, broken, before, commanded, plays}

-- what holds of each command whose operands the bytes hold, of a command of each letter, holds of the command decoded
module _ (bytes : List ℕ) (P : Command → Type 0) where
  abbrev There : Command → Type 0
  There want = operands want ≤ length bytes → P want

  whole-holds : (want : Command) → There want → IfOk (whole bytes want) P
  whole-holds want there =
      cond_both (leb (operands want) (length bytes)) (Ok want) (Err Cut) (λ a. IfOk a P) (λ long. there (leb-true (operands want) (length bytes) long)) (λ short. tt)

  either : (t : Bool) (a b : Result Command Refusal) → IfOk a P → IfOk b P → IfOk (cond t a b) P
  either t a b one other = cond_both t a b (λ r. IfOk r P) (λ e. one) (λ e. other)

  pub lettered-holds : (letter : ℕ) → There (new_command bytes) → There (write_command bytes) → There (read_command bytes) → There (fetch_command bytes) → There (place_command bytes) → There (delete_command bytes) → There (mesh_command bytes) → P Count → IfOk (lettered letter bytes) P
  lettered-holds letter on-new on-write on_read on-fetch on-place on-delete on-mesh on-count =
      either (eqb letter 78) (whole bytes (new_command bytes)) _ (whole-holds (new_command bytes) on-new)
      (either (eqb letter 87) (whole bytes (write_command bytes)) _ (whole-holds (write_command bytes) on-write)
      (either (eqb letter 82) (whole bytes (read_command bytes)) _ (whole-holds (read_command bytes) on_read)
      (either (eqb letter 70) (whole bytes (fetch_command bytes)) _ (whole-holds (fetch_command bytes) on-fetch)
      (either (eqb letter 80) (whole bytes (place_command bytes)) _ (whole-holds (place_command bytes) on-place)
      (either (eqb letter 68) (whole bytes (delete_command bytes)) _ (whole-holds (delete_command bytes) on-delete)
      (either (eqb letter 77) (whole bytes (mesh_command bytes)) _ (whole-holds (mesh_command bytes) on-mesh)
      (either (eqb letter 67) (Ok Count) (Err UnknownLetter) on-count tt)))))))

decoded_fits : (bytes : List ℕ) → IfOk (decoded bytes) (λ c. 1 + operands c ≤ length bytes)
decoded_fits [] = tt
decoded_fits (letter ∷ bytes) =
    lettered-holds bytes (λ c. 1 + operands c ≤ length (letter ∷ bytes)) letter (λ h. omega arith) (λ h. omega arith) (λ h. omega arith) (λ h. omega arith) (λ h. omega arith) (λ h. omega arith) (λ h. omega arith) (omega arith)

pub decoded-long : (bytes : List ℕ) (command : Command) → decoded bytes ≡ Ok command → 1 + operands command ≤ length bytes
decoded-long bytes command is = IfOk-at_ok (λ c. 1 + operands c ≤ length bytes) is (decoded_fits bytes)

-- the label of a decoded command is one byte
decoded_labels : (bytes : List ℕ) → ((i : ℕ) → get_or bytes i 0 < 256) → IfOk (decoded bytes) (λ c. runs.KnownLabel desktop (called c))
decoded_labels [] small = tt
decoded_labels (letter ∷ bytes) small =
    lettered-holds bytes (λ c. runs.KnownLabel desktop (called c)) letter (λ h. small 1) (λ h. small 1) (λ h. small 1) (λ h. tt) (λ h. small 1) (λ h. small 1) (λ h. tt) tt

pub decoded-known : (bytes : List ℕ) (command : Command) → ((i : ℕ) → get_or bytes i 0 < 256) → decoded bytes ≡ Ok command → runs.KnownLabel desktop (called command)
decoded-known bytes command small is = IfOk-at_ok (λ c. runs.KnownLabel desktop (called c)) is (decoded_labels bytes small)

-- of a whole list all is left
pub left-all : (it all : Commands) (input : List ℕ) → it ≡ all → all.input.now ≡ input → all.at ≡ 0 → left_in it ≡ found 0 0 input
left-all it all input same whole begins =
    ap left_in same ∙ ap (λ at. found 0 at (drop at all.input.now)) begins ∙ ap (found 0 0) whole

-- operand bytes are passed over
found_on : (k at : ℕ) (bytes : List ℕ) → k ≤ length bytes → found k at bytes ≡ found 0 (at + k) (drop k bytes)
unfolding found
found_on zero at bytes there = ap (λ n. found 0 n bytes) (sym (add-zero at))
found_on (suc k) at [] there = let never : ⊥ = omega arith in absurd never
found_on (suc k) at (byte ∷ bytes) there =
    found_on k (at + 1) bytes (omega arith)
    ∙ ap (λ n. found 0 n (drop k bytes)) (let e : at + 1 + k ≡ at + suc k = omega arith in e)

begun : (at byte : ℕ) (bytes : List ℕ) → found 0 at (byte ∷ bytes) ≡ placed (λ left. found left (at + 1) bytes) at (decoded (byte ∷ bytes))
unfolding found
begun at byte bytes = refl

-- a command, and what stands after it
found-next : (at : ℕ) (bytes : List ℕ) (command : Command) → decoded bytes ≡ Ok command → found 0 at bytes ≡ (at, Ok command) ∷ found 0 (at + (1 + operands command)) (drop (1 + operands command) bytes)
found-next at [] command is = let never : ⊥ = omega (arith, decoded-long [] command is) in absurd never
found-next at (byte ∷ bytes) command is =
    begun at byte bytes ∙ ap (placed (λ left. found left (at + 1) bytes) at) is
    ∙ ap (λ rest. (at, Ok command) ∷ rest)
    (found_on (operands command) (at + 1) bytes (omega (arith, decoded-long (byte ∷ bytes) command is))
    ∙ ap (λ n. found 0 n (drop (operands command) bytes)) (let e : at + 1 + operands command ≡ at + (1 + operands command) = omega arith in e)
    ∙ ap (λ k. found 0 (at + (1 + operands command)) (drop k (byte ∷ bytes))) (sym (one-add (operands command))))

module _ (at : ℕ) (input : List ℕ) where
  pub found-none : length input ≤ at → found 0 at (drop at input) ≡ []
  unfolding found
  found-none past =
      ap (found 0 at) (nil_from_length (drop at input) (omega (arith, length-drop at input)))

  -- the command at a place, whose operands end before the rest
  pub found-command : (rest : List ℕ) (command : Command) → decoded (drop at input) ≡ Ok command → rest ≡ drop (1 + operands command) (drop at input) → found 0 at (drop at input) ≡ (at, Ok command) ∷ found 0 (length input - length rest) (drop (length input - length rest) input)
  found-command rest command is cut =
      let size = 1 + operands command in
      let there : length input - length rest ≡ at + size = omega (arith, ap length cut, length-drop size (drop at input), length-drop at input, decoded-long (drop at input) command is) in
      found-next at (drop at input) command is
      ∙ ap (λ bytes. (at, Ok command) ∷ found 0 (at + size) bytes) (drop-drop size at input)
      ∙ ap (λ n. (at, Ok command) ∷ found 0 n (drop n input)) (sym there)

fault_so : (at : ℕ) (bytes : List ℕ) (e : Refusal) → 0 < length bytes → decoded bytes ≡ Err e → found 0 at bytes ≡ (at, Err e) ∷ []
fault_so at [] e some is = let never : ⊥ = omega arith in absurd never
fault_so at (byte ∷ bytes) e some is =
    begun at byte bytes ∙ ap (placed (λ left. found left (at + 1) bytes) at) is

-- a fault at a place, after which nothing is left
pub found-fault : (at : ℕ) (input : List ℕ) (e : Refusal) → at < length input → decoded (drop at input) ≡ Err e → found 0 at (drop at input) ≡ (at, Err e) ∷ found 0 (length input) (drop (length input) input)
found-fault at input e some is =
    fault_so at (drop at input) e (omega (arith, length-drop at input)) is
    ∙ ap (λ rest. (at, Err e) ∷ rest) (sym (found-none (length input) input (omega arith)))

module _ {C : Type 0} (g : Geometry) (meaning : Meaning C) where
  -- the line of what stands at a place, and the pool afterwards
  abbrev pub told_of : ℕ → Result Command Refusal → State C → Line × State C
  told_of at (Err e) s = (broken g at e s, s)
  told_of at (Ok command) s = told_with g at command (runs.step g meaning (called command) s)

  unfoldable pub tells : List (ℕ × Result Command Refusal) → State C → List Line × State C
  tells [] s = ([], s)
  tells (item ∷ items) s = let done = told_of item.0 item.1 s in before done.0 (tells items done.1)

  plays_so : (rest : ℕ → State C → List Line × State C) (later : ℕ → List (ℕ × Result Command Refusal)) → ((k : ℕ) (t : State C) → rest k t ≡ tells (later k) t) → (at : ℕ) (d : Result Command Refusal) (s : State C) → commanded g meaning rest at d s ≡ tells (placed later at d) s
  unfolding tells
  plays_so rest later same at (Err e) s = refl
  plays_so rest later same at (Ok command) s =
      let done = runs.step g meaning (called command) s in
      ap (before (told g at command done)) (same (operands command) done.1)

  -- playing a list is telling of what stands in it
  pub plays-tells : (k at : ℕ) (bytes : List ℕ) (s : State C) → plays g meaning k at bytes s ≡ tells (found k at bytes) s
  unfolding plays found tells
  plays-tells k at [] s = refl
  plays-tells (suc k) at (byte ∷ bytes) s = plays-tells k (at + 1) bytes s
  plays-tells zero at (byte ∷ bytes) s =
      plays_so (λ k t. plays g meaning k (at + 1) bytes t) (λ k. found k (at + 1) bytes) (λ k t. plays-tells k (at + 1) bytes t) at (decoded (byte ∷ bytes)) s

-- more lines in front
abbrev pub behind : {C : Type 0} → List Line → List Line × State C → List Line × State C
behind lines rest = (lines ++ rest.0, rest.1)

-- a loop that keeps the lines told so far: one line more
pub behind_more : {C : Type 0} (lines : List Line) (line : Line) (rest : List Line × State C) → behind (lines ++ line ∷ []) rest ≡ behind lines (before line rest)
behind_more {C} lines line rest = ap (λ (ls : List Line). let r : List Line × State C = (ls, rest.1) in r) (append_assoc lines (line ∷ []) rest.0)

-- the lines so far, and those of what is left, are all lines
abbrev pub Telling : {C : Type 0} → Geometry → Meaning C → List ℕ → State C → List Line → List (ℕ × Result Command Refusal) → State C → Type 0
Telling g meaning input began lines left s = behind lines (tells g meaning left s) ≡ plays g meaning 0 0 input began

module _ {C : Type 0} (g : Geometry) (meaning : Meaning C) (input : List ℕ) (began s : State C) (lines : List Line) (left : List (ℕ × Result Command Refusal)) where
  pub telling-begins : lines ≡ [] → left ≡ found 0 0 input → Telling g meaning input s lines left s
  telling-begins none whole =
      ap (λ ls. behind ls (tells g meaning left s)) none ∙ ap (λ items. tells g meaning items s) whole
      ∙ sym (plays-tells g meaning 0 0 input s)

  -- one line more
  pub telling-on : (more : List Line) (line : Line) (at : ℕ) (d : Result Command Refusal) (rest : List (ℕ × Result Command Refusal)) (t : State C) → left ≡ (at, d) ∷ rest → (line, t) ≡ told_of g meaning at d s → more ≡ lines ++ line ∷ [] → Telling g meaning input began lines left s → Telling g meaning input began more rest t
  unfolding tells
  telling-on more line at d rest t first done pushed so_far =
      ap (λ ls. behind ls (tells g meaning rest t)) pushed ∙ behind_more lines line (tells g meaning rest t)
      ∙ ap (λ (x : Line × State C). behind lines (before x.0 (tells g meaning rest x.1))) done
      ∙ ap (λ items. behind lines (tells g meaning items s)) (sym first) ∙ so_far

  pub telling-ends : left ≡ [] → Telling g meaning input began lines left s → (lines, s) ≡ plays g meaning 0 0 input began
  unfolding tells
  telling-ends none so_far =
      let pair : List Line → List Line × State C = λ ls. (ls, s) in
      ap pair (sym (append-nil lines)) ∙ ap (λ items. behind lines (tells g meaning items s)) (sym none) ∙ so_far
