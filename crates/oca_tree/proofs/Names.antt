-- What a request leaves of the names of positions.
use Rattle.oca_tree.proofs.Words.{◌≡◌, ℕ, List, set, refl, sym, subst, Request, IsText, Each, Switch, Value, value_changed_by, held_set_to, with_positions, with_name, enabled_at}
use Rattle.oca_model.specs.declared.request.Request.TheVariants as requests
use Rattle.oca_model.specs.declared.value.Value.{Value as Setting}
use Rattle.oca_model.specs.declared.value.Value.TheVariants as settings
use Rattle.oca_model.proofs.Carried.{SetsTexts}
use Rattle.oca_tree.specs.declared.object.Value.TheVariants as values
use Rattle.oca_tree.specs.Copies.{names_in}

set_names : (v : Value) (new : Setting) → names_in (held_set_to v new) ≡ names_in v
unfolding names_in
set_names values.Block new = refl
set_names (values.Reads r) new = refl
set_names (values.Switch switch) (settings.Switch n) = refl
set_names (values.Switch switch) _ = refl

-- what holds of each list of texts, and of a list that has it with a text put into it, holds of the names still
module _ (P : List (List ℕ) → Type 0) (texts : (xs : List (List ℕ)) → Each IsText xs → P xs)
    (put : (xs : List (List ℕ)) (n : ℕ) (text : List ℕ) → IsText text → P xs → P (set xs n text)) where
  positions_kept : (change : Switch → Switch) → ((s : Switch) → P s.names.items → P (change s).names.items) → (v : Value) → P (names_in v) → P (names_in (with_positions change v))
  unfolding names_in
  positions_kept change keeps (values.Switch s) h = keeps s h
  positions_kept change keeps _ h = h

  pub names_kept : (v : Value) (r : Request) → SetsTexts r → P (names_in v) → P (names_in (value_changed_by v r))
  unfolding SetsTexts
  names_kept v (requests.Set new) is h = subst P (sym (set_names v new)) h
  names_kept v (requests.SetPositionName n text) is h = positions_kept (with_name n text) (λ s k. put s.names.items n text is k) v h
  names_kept v (requests.SetPositionNames names) is h = positions_kept (λ s. record s { names = names }) (λ s k. texts names.items is) v h
  names_kept v (requests.SetPositionEnabled n truth) is h = positions_kept (enabled_at n truth) (λ s k. k) v h
  names_kept v (requests.SetPositionEnableds flags) is h = positions_kept (λ s. record s { enableds = flags }) (λ s k. k) v h
  names_kept v _ is h = h
