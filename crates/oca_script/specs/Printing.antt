-- What is printed through a buffer.
use Rattle.std.specs.Prelude.{◌≡◌, ℕ, List, [], ◌++◌, true, Option, Result, Ok, Err}
use Rattle.std.specs.Io.KnownBytes.{Appends}
use Rattle.oca_script.specs.declared.fault.WriteFailed.{WriteFailed}
use Rattle.oca_script.specs.Ends.{Output}

-- a sink took a front of what was held and of the text, and this rest it did not
pub record Emits (was is : Option (List ℕ)) (held text rest : List ℕ) : Type 0 where
  pub sent : List ℕ
  pub appends : Appends was is sent
  pub whole : held ++ text ≡ sent ++ rest

-- the text was printed: what the sink did not take is held
pub record PrintsAll (old new : Output) (text : List ℕ) : Type 0 where
  pub emits : Emits old.contents new.contents old.held text new.held
  pub failed : new.failed ≡ old.failed

-- a write failed: some rest of what was held and of the text is lost
pub record PrintsPart (old new : Output) (text : List ℕ) : Type 0 where
  pub lost : List ℕ
  pub emits : Emits old.contents new.contents old.held text lost
  pub failed : new.failed ≡ true

-- the text was printed, or a write failed
abbrev pub Prints : Result Unit WriteFailed → Output → Output → List ℕ → Type 0
Prints (Ok u) old new text = PrintsAll old new text
Prints (Err e) old new text = PrintsPart old new text

-- a sink took a front of the text
pub record AppendsFront (was is : Option (List ℕ)) (text : List ℕ) : Type 0 where
  pub front : List ℕ
  pub rest : List ℕ
  pub whole : text ≡ front ++ rest
  pub appends : Appends was is front

-- what was held and the text were written: nothing is held
pub record WritesWhole (old new : Output) (text : List ℕ) : Type 0 where
  pub appends : Appends old.contents new.contents (old.held ++ text)
  pub none_held : new.held ≡ []
  pub failed : new.failed ≡ old.failed

-- a write failed: a front of what was held and of the text was written
pub record WritesFront (old new : Output) (text : List ℕ) : Type 0 where
  pub front : AppendsFront old.contents new.contents (old.held ++ text)
  pub failed : new.failed ≡ true

-- the text was written behind what was held, and nothing is held; or a write failed
abbrev pub WritesOut : Result Unit WriteFailed → Output → Output → List ℕ → Type 0
WritesOut (Ok u) old new text = WritesWhole old new text
WritesOut (Err e) old new text = WritesFront old new text

-- all of the bytes were written, or a write failed
abbrev pub WritesBytes : Result Unit WriteFailed → Output → Output → List ℕ → Type 0
WritesBytes (Ok u) old new bytes = Appends old.contents new.contents bytes × (new.failed ≡ old.failed)
WritesBytes (Err e) old new bytes = AppendsFront old.contents new.contents bytes × (new.failed ≡ true)
