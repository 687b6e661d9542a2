-- How many objects a tree has room for, as the maker chooses it.
use Rattle.std.specs.Prelude.{ℕ}
use Rattle.oca_tree.specs.declared.room.Room.{Room}

abbrev pub room_size : Room → ℕ
room_size room = room.size
