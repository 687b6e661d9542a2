use Rattle.std.proofs.Common.{rules, arith, refl, sym, ap, ◌∙◌, ◌≡◌, ℕ, List, length, Option, Some, None, IfSome, Bool, true, false}
use Rattle.std.specs.Int.{from_bool}
use Rattle.std.specs.Option.{option_copied, option_map}
use Rattle.oca_tree.specs.Copies.{stored_in}
use Rattle.oca_calls.specs.CSpecs.{is_yes}
use Rattle.oca_calls.proofs.spec_reading.spec_of.Goals as goal

yes_from : (b : Bool) → is_yes (from_bool b) ≡ b
yes_from true = refl
yes_from false = refl

flags_there : (flags : Option (List Bool)) (n : ℕ) (stored : List Bool) → IfSome flags (λ them. (length them ≡ n) × (stored ≡ them)) → IfSome flags (λ them. them ≡ stored)
flags_there None n stored h = tt
flags_there (Some them) n stored h = sym h.1

pub returns-clause-writes : goal.returns-clause-writes
returns-clause-writes c = record {
  sized = record { version = record { size = refl; zeros = refl }; positions = omega (arith, c.if-names-gt-MOST_POSITIONS.false) };
  role = search rules;
  role_size = search rules;
  lockable = sym c.is_lockable.ensures ∙ c.in_ok-lockable.was ∙ ap Some (sym (ap is_yes c.from.ensures ∙ yes_from c.in_ok-lockable.lockable));
  reading = search rules;
  names = search rules;
  sizes = search rules;
  stored = (
    option_copied c.in_ok-start.start.position_enableds,
    (rw (c.of-2.ensures.text, ap is_yes c.from-2.ensures ∙ yes_from c.in_ok-start.start.enabled) (sym c.start_of.ensures ∙ ap (option_map stored_in) c.in_ok-start.was)),
    flags_there _ _ _ c.in_ok-enableds.ensures.bytes,
  );
  label_size = search rules;
}
