-- Objects that calls made, or that a text lists, are read back from the text that is written of them.
use Rattle.std.proofs.Common.{◌≡◌, ℕ, ◌+◌, Bool, true, false, ◌||◌, ◌==◌, cond, List, [], ◌∷◌, ◌++◌, length, Option, Some, None, Ok, refl, sym, ap, ◌∙◌, subst, arith, IsUtf8}
use Rattle.std.specs.Prelude.{nat_lt, nat_le, is_some, not}
use Rattle.std.specs.List.{list_any, All}
use Rattle.std.specs.Option.{option_map, option_or}
use Rattle.std.proofs.lemmas.List.Elements.{All-nil, All-cons, All-head, All-push, All-weaker}
use Rattle.std.proofs.lemmas.Str.{IsUtf8-nil}
use Rattle.oca_tree.specs.declared.builder.AddFault.{AddFault}
use Rattle.oca_tree.specs.declared.builder.Kind.{Kind}
use Rattle.oca_tree.specs.declared.builder.Kind.TheVariants as given
use Rattle.oca_tree.specs.declared.builder.Spec.{Spec}
use Rattle.oca_tree.specs.declared.object.Object.{Object}
use Rattle.oca_tree.specs.declared.object.Value.{Value}
use Rattle.oca_tree.specs.declared.object.Value.TheVariants as values
use Rattle.oca_tree.specs.declared.start.Start.{Start}
use Rattle.oca_tree.specs.declared.start.StartFault.{StartFault}
use Rattle.oca_tree.specs.declared.start.StartFault.TheVariants as starts
use Rattle.oca_tree.specs.Building.{root, value_of, has_bad_name, is_long, is_bad_value, object_of_spec, add_fault}
use Rattle.oca_tree.specs.Copies.{names_in}
use Rattle.oca_tree.specs.Objects.{object_of}
use Rattle.oca_tree.specs.Places.{places, is_block, depth}
use Rattle.oca_tree.specs.Starts.{flags_of, has_other_flags, restored, start_fault}
use Rattle.oca_tree.specs.Execution.{execution}
use Rattle.oca_tree.specs.Locks.{released}
use Rattle.oca_tree.specs.LocalChanges.{after_change}
use Rattle.oca_tree.specs.Trees.{IsTree}
use Rattle.oca_textree.specs.Made.{IsTyped, IsMade, MadeIsReadBack, ListedIsReadBack}
use Rattle.oca_textree.specs.Made as made
use Rattle.oca_textree.specs.Written.{IsShortText, IsNamed}
use Rattle.oca_textree.proofs.SplitLemmas.{any-map}
use Rattle.oca_textree.proofs.ListedLemmas.{AreListed, IsFresh, Rooted, rooted-root, plain-root, root-stays, text-listed, all-unlocked, HasShortTexts, texts-tested, sixth-none, all-short, short-text, not-long-short, flags-names}
use Rattle.oca_textree.proofs.CommandedLemmas.{command-kept, change-kept, release-kept}
use Rattle.oca_textree.proofs.LinesBack.{tree-back}

-- ---- additions

-- the flag of a kind says whether a name of its value is long
bad-name : (k : Kind) → has_bad_name k ≡ list_any is_long (names_in (value_of k))
unfolding value_of names_in
bad-name (given.Switch names position) = sym (any-map is_long names.now)
bad-name _ = refl

not-refused : (room : ℕ) (tree : List Object) (block number : ℕ) (spec : Spec) → add_fault room tree block number spec ≡ None → HasShortTexts spec.role.now (has_bad_name spec.kind)
unfolding add_fault
not-refused room tree block number spec e =
    texts-tested spec.role.now (has_bad_name spec.kind) (sixth-none (nat_le room (length tree)) (nat_lt number 4096) (is_some (object_of tree number)) (not (is_block (places tree) block))
    (nat_lt 8 (depth (places tree) block + 1)) ((length spec.role.now == 0) || is_long spec.role.now || has_bad_name spec.kind) (is_bad_value (value_of spec.kind)) e)

spec-names : (spec : Spec) → All IsUtf8 (names_in (value_of spec.kind)) → has_bad_name spec.kind ≡ false → All IsShortText (names_in (value_of spec.kind))
spec-names spec h e = all-short (names_in (value_of spec.kind)) h (sym (bad-name spec.kind) ∙ e)

spec-named : (block number : ℕ) (spec : Spec) → IsTyped block number spec → HasShortTexts spec.role.now (has_bad_name spec.kind) → IsNamed (object_of_spec block number spec)
spec-named block number spec h tested = record {
  ono = h.number_fits;
  container = h.block_fits;
  role = short-text spec.role.now h.role tested.few;
  some = tested.some;
  label = short-text [] IsUtf8-nil (omega arith);
  names = spec-names spec h.names tested.names;
}

-- a label that is not refused is short
label-tested : (v : Value) (start : Start) → start_fault v start ≡ None → is_long start.label.now ≡ false
unfolding start_fault
label-tested v start e = by (is_long start.label.now) (has_other_flags (flags_of start) v) e
  where
    by : (a b : Bool) → cond a (Some starts.BadLabel) (cond b (Some starts.BadFlags) None) ≡ None → a ≡ false
    by true b h = absurd (cc)
    by false b h = refl

start-label : (v : Value) (start : Start) → IsUtf8 start.label.now → start_fault v start ≡ None → IsShortText start.label.now
start-label v start utf8 e = short-text start.label.now utf8 (not-long-short start.label.now (label-tested v start e))

start-named : (o : Object) (start : Start) → IsShortText start.label.now → IsNamed o → IsNamed (restored start o)
start-named o start label h = record {
  ono = h.ono;
  container = h.container;
  role = h.role;
  some = h.some;
  label = label;
  names = subst (All IsShortText) (sym (flags-names (flags_of start) o.value)) h.names;
}

both-none : (a : Option AddFault) (b : Option StartFault) → option_or (option_map starts.Add a) b ≡ None → (a ≡ None) × (b ≡ None)
both-none None b e = (refl, e)
both-none (Some f) b e = absurd (cc)

-- ---- the calls

-- the root as a builder makes it, and objects that fit a line
pub record AreNamed (tree : List Object) : Type 0 where
  pub root_first : Rooted tree
  pub named : All IsNamed tree

pushed : (tree : List Object) (o : Object) → AreNamed tree → IsNamed o → AreNamed (tree ++ o ∷ [])
pushed tree o h is = record {
  root_first = root-stays tree o h.root_first;
  named = All-push IsNamed tree o h.named is;
}

listed-named : (tree : List Object) → AreListed tree → AreNamed tree
listed-named tree h = record { root_first = h.root_first; named = All-weaker IsFresh IsNamed (λ o is. is.named) tree h.fresh }

with-root : (start : Start) → IsShortText start.label.now → AreNamed (restored start root ∷ [])
with-root start label =
    let plain = listed-named (root ∷ []) plain-root in
    record {
      root_first = plain.root_first;
      named = All-cons IsNamed (restored start root) [] (start-named root start label (All-head IsNamed root [] plain.named)) (All-nil IsNamed);
    }

kept : (tree : List Object) → Rooted tree × All IsNamed tree → AreNamed tree
kept tree h = record { root_first = h.0; named = h.1 }

made-named : (tree : List Object) → IsMade tree → AreNamed tree
made-named _ made.begun = listed-named (root ∷ []) plain-root
made-named _ (made.begun_with start utf8 none) = with-root start (start-label values.Block start utf8 none)
made-named _ (made.added tree room block number spec h typed none) =
    pushed tree (object_of_spec block number spec) (made-named tree h) (spec-named block number spec typed (not-refused room tree block number spec none))
made-named _ (made.added_with tree room block number spec start h typed utf8 none) =
    let p = both-none (add_fault room tree block number spec) (start_fault (value_of spec.kind) start) none in
    let is = spec-named block number spec typed (not-refused room tree block number spec p.0) in
    pushed tree (restored start (object_of_spec block number spec)) (made-named tree h)
    (start-named (object_of_spec block number spec) start (start-label (value_of spec.kind) start utf8 p.1) is)
made-named _ (made.listed text tree e) = listed-named tree (text-listed text tree e)
made-named _ (made.executed tree peer command h) =
    let n = made-named tree h in
    kept (execution tree peer command).tree (command-kept tree peer command n.root_first n.named)
made-named _ (made.set_locally tree number change h) =
    let n = made-named tree h in
    kept (after_change tree number change) (change-kept tree number change n.root_first n.named)
made-named _ (made.unlocked_by tree peer h) =
    let n = made-named tree h in
    kept (released tree peer) (release-kept tree peer n.root_first n.named)

-- WHAT CALLS MADE IS READ BACK from its text.
pub made-back : (tree : List Object) → IsTree tree → MadeIsReadBack tree
made-back tree h is = let n = made-named tree is in tree-back tree h (rooted-root tree n.root_first) n.named

-- WHAT A TEXT LISTS IS READ BACK from the text that is written of it.
pub listed-back : (tree : List Object) → IsTree tree → ListedIsReadBack tree
listed-back tree h text e =
    let listed = text-listed text tree e in
    let n = listed-named tree listed in
    tree-back tree h (rooted-root tree n.root_first) n.named ∙ ap Ok (all-unlocked tree listed.fresh)
