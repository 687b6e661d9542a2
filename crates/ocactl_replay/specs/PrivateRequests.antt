-- For private contracts: what the program's own values say.
use Rattle.std.specs.Prelude.{ℕ, List, Option, Result, Ok, Err}
use Rattle.std.specs.Option.{option_map}
use Rattle.oca_types.specs.declared.words.Request.{Request}
use Rattle.oca_types.specs.Peers.{RequestFields, request_of}
use Rattle.oca_script.specs.declared.fault.LineFault.{LineFault}
use Rattle.ocactl_replay.specs.declared.request.Texts.{Texts}
use Rattle.ocactl_replay.specs.declared.request.Call.{Call}
use Rattle.ocactl_replay.specs.declared.request.Call.TheVariants as calls
use Rattle.ocactl_replay.specs.Requests.{LinkCall, Submit, Due, Datagram, Take, CommandTexts}
use denote.Ref.{Bor}

abbrev pub text_given : Option (Bor (List ℕ)) → Option (List ℕ)
text_given r = option_map (λ t. t.now) r

abbrev pub pair_given : Option (Bor (List ℕ) × Bor (List ℕ)) → Option (List ℕ × List ℕ)
pair_given r = option_map (λ p. (p.0.now, p.1.now)) r

abbrev pub texts_in : Texts → CommandTexts
texts_in t =
    record {
      target = t.target.now;
      level = t.level.now;
      index = t.index.now;
      count = t.count.now;
      params = t.params.now;
    }

abbrev pub texts_given : Option Texts → Option CommandTexts
texts_given r = option_map texts_in r

abbrev pub request_read : Result Request LineFault → Result RequestFields LineFault
request_read (Ok s) = Ok (request_of s)
request_read (Err f) = Err f

abbrev pub link_call_in : Call → LinkCall
link_call_in (calls.Submit now s) = Submit now (request_of s)
link_call_in (calls.Due now) = Due now
link_call_in (calls.Datagram now from bytes) = Datagram now from bytes.now
link_call_in (calls.Take handle) = Take handle.0

abbrev pub call_asked : Result Call LineFault → Result LinkCall LineFault
call_asked (Ok c) = Ok (link_call_in c)
call_asked (Err f) = Err f
