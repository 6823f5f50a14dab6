use Rattle.std.proofs.Common.{refl}
use Rattle.bank.specs.Tables.{peek}
use Rattle.draws.specs.Draws.{next}
use Rattle.model.specs.Geometry.{class_of, slot_size}
use Rattle.model.specs.Masks.{set_bits, free_places, free_place, set_places}
use Rattle.model.specs.Calls.{best_below, lowest_idle, tally, owner}
use Rattle.model.specs.Mesh.{listed}
use Rattle.worked.proofs.worked_pool.Goals as goal

pub returns : goal.returns
unfolding peek next class_of slot_size set_bits free_places free_place set_places best_below lowest_idle tally owner listed
returns c =
    record {
      draws = refl;
      pairings =
          record { words_join = refl; words_clash = refl; cells_join = refl; cells_clash = refl; shuffle = refl; greedy = refl; split = refl };
      smallest = refl;
      last_of_0 = refl;
      first_of_1 = refl;
      largest = refl;
      bad_lengths = refl;
      listed = refl;
      book_1 = refl;
      book_2 = refl;
      book_3 = refl;
      book_4 = refl;
      book_5 = refl;
      stray = refl;
      quota = refl;
    }
