-- What a reply tells of the reading that it comes of: each case of a reading replies in its own way.
-- Assumes nothing.
use mathlib.Core.Path.{◌≡◌, refl}
use Rattle.std.specs.Prelude.{Ok, Err}
use Rattle.numbers.specs.declared.Refusal.{Refusal}
use Rattle.table.specs.Inner.{holding, held_of}
use Rattle.table.specs.declared.Held.{Held}
use Rattle.table.specs.declared.Room.{Room}
use Rattle.table.specs.Reading.{Reading, table, refused, rows_of, roots_of, counted, reply_of}

-- A reply that reports a table comes of one of that size.
pub table_of_lem : (w : Reading) (k : Room) → reply_of w ≡ Ok k → (w ≡ table (rows_of w) (roots_of w)) × (counted (rows_of w) (roots_of w) ≡ k)
table_of_lem (table rows roots) k e = (refl, cc)
table_of_lem (refused why) k e = cc

-- A reply that refuses comes of nothing read.
pub nothing_of : (w : Reading) (why : Refusal) → reply_of w ≡ Err why → w ≡ refused why
nothing_of (table rows roots) why e = cc
nothing_of (refused other) why e = cc

-- What is held comes of a table, and is its rows and roots.
pub held_table :
    (w : Reading) (h : Held) → held_of w ≡ Ok h → (w ≡ table (rows_of w) (roots_of w)) × (h ≡ holding (rows_of w) (roots_of w))
held_table (table rows roots) h e = (refl, cc)
held_table (refused why) h e = cc
