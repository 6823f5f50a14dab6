-- The laws of a pool, at units that were started and given lists of calls.
use Rattle.std.proofs.Common.{◌≡◌, List, [], ◌∷◌, sym, refl, ap, subst, lit≤}
use Rattle.model.specs.Geometry.{desktop}
use Rattle.model.specs.State.{State, opened}
use Rattle.model.specs.Mesh.{Meaning}
use Rattle.model.specs.Runs.{Call, Answer, History, told, step, run, Lawful}
use Rattle.calls.specs.Values.{answered_by}
use Rattle.laws.specs.Laws.{Play, Alike, history, end}
use Rattle.laws.proofs.Readings.{reading_law, same_readings_law}
use Rattle.laws.proofs.Frames.{frame_law}
use Rattle.laws.proofs.Counting.{count_law}
use Rattle.units.specs.Performance.{Performance, history_of, AsDefined, KeepsLaws, KeepLawsOfTwo}
use Rattle.units.specs.Promises.{Kept, StartedAlike, Agree}

-- the history of a run is its calls with its answers
told-run : {C : Type 0} (meaning : Meaning C) (calls : List Call) (s : State C) → told calls (answered_by meaning calls s).0 ≡ (run desktop meaning calls s).0
told-run meaning [] s = refl
told-run meaning (c ∷ calls) s =
    ap (λ (rest : History). (c, (step desktop meaning c s).0) ∷ rest) (told-run meaning calls (step desktop meaning c s).1)

module _ {C : Type 0} {p : Performance C} (lawful : Lawful p.start.meaning) (done : AsDefined p) where
  -- the play that a unit has performed
  abbrev pub play : Play C desktop
  play =
      record {
        meaning = p.start.meaning;
        bank = p.start.bank;
        condition = p.start.condition;
        seed = p.start.seed;
        calls = p.start.calls;
        frames_fit = lit≤ tt;
        few_frames = done.few;
        proper = done.proper;
        lawful = lawful;
        known = done.known;
      }

  -- what holds of the play's history and its end holds of the calls with the answers given, and of the unit as it is
  pub at_unit : (Q : History → State C → Type 0) → Q (history play) (end play) → Q (history_of p) p.now
  at_unit Q base =
      let at : List Answer × State C → Type 0 = λ x. Q (told p.start.calls x.0) x.1 in
      subst at (sym done.run) (subst (λ h. Q h (end play)) (sym (told-run p.start.meaning p.start.calls (opened desktop p.start.bank p.start.condition p.start.seed))) base)

  pub kept : KeepsLaws p
  kept =
      at_unit (λ h t. Kept p.start.meaning h t) (record {
        reads_as_booked = reading_law C desktop play;
        balanced = (count_law C desktop play).0;
        bounded = (count_law C desktop play).1;
      })

module _ {C D : Type 0} {p : Performance C} {q : Performance D} (lawful : Lawful p.start.meaning) (done : AsDefined p) (lawful' : Lawful q.start.meaning) (done' : AsDefined q) where
  abbrev one : Play C desktop
  one = play lawful done

  abbrev two : Play D desktop
  two = play lawful' done'

  alike : StartedAlike p.start q.start → Alike one two
  alike a = record { seeds = a.seeds; sizes = a.sizes; openings = a.openings; pairings = a.pairings; calls = a.calls }

  pub agree : KeepLawsOfTwo p q
  agree =
      at_unit lawful done (λ h x. Agree p.start h x q.start (history_of q) q.now)
      (at_unit lawful' done' (λ k y. Agree p.start (history one) (end one) q.start k y)
      (record {
        books_from_readings = (same_readings_law C D desktop one two).0;
        readings_from_books = (same_readings_law C D desktop one two).1;
        readings_from_frames = λ a. (frame_law C D desktop one two (alike a)).0;
        frames_from_readings = λ a. (frame_law C D desktop one two (alike a)).1;
      }))
