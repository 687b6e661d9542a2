-- Printing one text after another, where each item is asked for by its place.
use Rattle.std.proofs.Common.{◌≡◌, ℕ, ◌+◌, List, take, Some, Result, Err, refl}
use Rattle.std.proofs.lemmas.Option.{slice_get_within, get_or_from_slice_get}
use Rattle.std.specs.Prelude.{slice_get}
use Rattle.std.specs.List.{flat_map}
use Rattle.oca_script.specs.declared.fault.WriteFailed.{WriteFailed}
use Rattle.oca_script.specs.Ends.{Output}
use Rattle.oca_script.specs.Printing.{Prints, PrintsAll, PrintsPart}
use Rattle.oca_script.proofs.PrintLemmas.{items-less, items-more}

-- one packet more was printed
pub packets-more : {X : Type 0} (a b c : Output) (f : X → List ℕ) (xs : List X) (i : ℕ) (x : X)
    → slice_get xs i ≡ Some x → PrintsAll a b (flat_map f (take i xs)) → PrintsAll b c (f x) → PrintsAll a c (flat_map f (take (i + 1) xs))
packets-more a b c f xs i x found h k = items-more f xs i x a b c (slice_get_within xs i x found) h (rw (get_or_from_slice_get xs i x x found) k)

-- a front of it
pub packets-less : {X : Type 0} (r : Result Unit WriteFailed) (e : WriteFailed) (a b c : Output) (f : X → List ℕ) (xs : List X) (i : ℕ) (x : X)
    → slice_get xs i ≡ Some x → r ≡ Err e → PrintsAll a b (flat_map f (take i xs)) → PrintsPart b c (f x) → Prints r a c (flat_map f xs)
packets-less r e a b c f xs i x found is h k =
    items-less f r xs i x a b c (slice_get_within xs i x found) (rw is refl) h (rw (get_or_from_slice_get xs i x x found) k)
