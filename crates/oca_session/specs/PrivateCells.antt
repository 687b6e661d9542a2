-- What a window keeps (private contracts alone cite it): of each command a handle and a cell.
use Rattle.std.specs.Prelude.{◌≡◌, ℕ, zero, suc, ◌<◌, ◌==◌, Bool, false, List, [], ◌∷◌, ◌++◌, length, slice_get}
use Rattle.std.specs.Prelude.{filter_map, option_map, Option, Some, None, All, AllPairs}
use Rattle.oca_types.specs.declared.words.Handle.{Handle}
use Rattle.oca_types.specs.Replies.{Reply}
use Rattle.oca_session.specs.declared.window.Held.{Held}
use Rattle.oca_session.specs.Accepted.{Entry}

-- what a cell holds: a command without its handle, and its reply
pub record CellState : Type 0 where
  pub target : ℕ
  pub level : ℕ
  pub index : ℕ
  pub count : ℕ
  pub params : List ℕ
  pub reply : Reply

-- the accepted command of a handle, from what its cell holds
abbrev pub entry_in : Handle → CellState → Entry
entry_in x a =
    record {
      command = record {
        handle = x.0;
        target = a.target;
        level = a.level;
        index = a.index;
        count = a.count;
        params = a.params;
      };
      reply = a.reply;
    }

-- the accepted commands of what is held, in its order: the handle of each with what its cell holds
abbrev pub entries_of : List Held → List CellState → List Entry
entries_of hs cs = filter_map (λ g. option_map (entry_in g.handle) (slice_get cs g.cell)) hs

-- what is held has this handle
abbrev pub is_under : ℕ → Held → Bool
is_under h g = g.handle.0 == h

-- the one has another handle than the other, and another cell
abbrev pub AreApart : Held → Held → Type 0
AreApart g h = (is_under h.handle.0 g ≡ false) × ((g.cell == h.cell) ≡ false)

-- There are as many cells as commands are held, each has a cell of its own, and its handle is another's nowhere and
-- below this number.
abbrev pub AreHeld : List Held → List CellState → ℕ → Type 0
AreHeld hs cs above =
    (length cs ≡ length hs) × All (λ g. g.cell < length cs) hs × AllPairs AreApart hs × All (λ g. g.handle.0 < above) hs

-- the floor that this number is one above; 0 is above none
abbrev pub floor_before : ℕ → Option ℕ
floor_before zero = None
floor_before (suc floor) = Some floor

-- this handle with the cell of this number
abbrev pub held_in : Handle → ℕ → Held
held_in x cell = record { handle = x; cell = cell }

-- the cell is that of the oldest, and as many are held as there may be
pub record IsCellOfOldest (hs : List Held) (size cell : ℕ) : Type 0 where
  pub oldest : Held
  pub first : slice_get hs 0 ≡ Some oldest
  pub same : cell ≡ oldest.cell
  pub full : length hs ≡ size

-- a cell of this handle, with this accepted command, was added after the others
pub record AddsCell (x : Handle) (e : Entry) (old new : List CellState) : Type 0 where
  pub cell : CellState
  pub holds : entry_in x cell ≡ e
  pub added : new ≡ old ++ cell ∷ []
