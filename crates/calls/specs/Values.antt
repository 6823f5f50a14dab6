-- Calls and answers as values of the code, and as the definition of a pool has them.
use Rattle.std.specs.Prelude.{◌≡◌, ℕ, List, map, take, Ok, Err, vec_items, Result, Vec}
use Rattle.std.specs.declared.alloc.Global.{Global}
use Rattle.refusal.specs.declared.Refusal.{Refusal}
use Rattle.calls.specs.declared.Call.{Call}
use Rattle.calls.specs.declared.Call.TheVariants.{New, Write, Read, Fetch, Place, Delete, Mesh, Count}
use Rattle.calls.specs.declared.Answer.{Answer}
use Rattle.calls.specs.declared.Answer.TheVariants.{ToNew, ToWrite, ToRead, ToFetch, ToPlace, ToDelete, ToMesh, ToCount}
use Rattle.model.specs.Geometry.{desktop}
use Rattle.model.specs.State.{State}
use Rattle.model.specs.Mesh.{Meaning}
use Rattle.model.specs.Runs as runs

abbrev pub call_of : Call → runs.Call
call_of (New label length) = runs.New label length
call_of (Write label offset bytes) = runs.Write label offset (vec_items bytes)
call_of (Read label offset count) = runs.Read label offset count
call_of (Fetch address count) = runs.Fetch address count
call_of (Place label) = runs.Place label
call_of (Delete label) = runs.Delete label
call_of (Mesh class) = runs.Mesh class
call_of Count = runs.Count

abbrev pub bytes_of : Result (Vec ℕ Global) Refusal → Result (List ℕ) Refusal
bytes_of (Ok bytes) = Ok (vec_items bytes)
bytes_of (Err e) = Err e

abbrev pub answer_of : Answer → runs.Answer
answer_of (ToNew r) = runs.to_new r
answer_of (ToWrite r) = runs.to_write r
answer_of (ToRead r) = runs.to_read (bytes_of r)
answer_of (ToFetch r) = runs.to_fetch (bytes_of r)
answer_of (ToPlace r) = runs.to_place r
answer_of (ToDelete r) = runs.to_delete r
answer_of (ToMesh r) = runs.to_mesh r
answer_of (ToCount counts) = runs.to_count counts

-- what a list of calls answers at the desktop unit, and leaves
abbrev pub answered_by : {C : Type 0} → Meaning C → List runs.Call → State C → List runs.Answer × State C
answered_by meaning calls s = (map (λ (e : runs.Call × runs.Answer). e.1) (runs.run desktop meaning calls s).0, (runs.run desktop meaning calls s).1)

-- t is s after some front of the calls
abbrev pub RanAFront : {C : Type 0} → Meaning C → List runs.Call → State C → State C → Type 0
RanAFront meaning calls s t = (n : ℕ) × (t ≡ (runs.run desktop meaning (take n calls) s).1)
