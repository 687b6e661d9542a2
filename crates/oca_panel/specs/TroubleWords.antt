-- Why something asked of an object is not done, in words (the names of statuses are those of AES70-2, OcaStatus; the
-- other words are the profile's).
use Rattle.std.specs.Prelude.{◌++◌, List, None, Option, Some, codes, decimal, ℕ}
use Rattle.oca_control.specs.FaultWords.{control_fault_words}
use Rattle.oca_model.specs.Statuses.{status_name_of}
use Rattle.oca_panel.specs.declared.trouble.Trouble.{Trouble}
use Rattle.oca_panel.specs.declared.trouble.Trouble.TheVariants as trouble

-- the name of a status, or its number where it has none
abbrev pub name_or_number : ℕ → Option (List ℕ) → List ℕ
name_or_number status (Some name) = name
name_or_number status None = codes "status " ++ decimal status

abbrev pub trouble_words : Trouble → List ℕ
trouble_words (trouble.Refused status) = name_or_number status (status_name_of status)
trouble_words trouble.Unreadable = codes "unreadable answer"
trouble_words trouble.NoValue = codes "no value"
trouble_words trouble.NoSuchWord = codes "no such value"
trouble_words (trouble.NotSubmitted fault) = codes "not sent: " ++ control_fault_words fault
trouble_words trouble.Lost = codes "lost"
trouble_words trouble.Unanswered = codes "no answer"
