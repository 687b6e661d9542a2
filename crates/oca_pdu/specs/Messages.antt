-- Messages and PDUs, without where their parameters lie in memory (AES70-3).
use Rattle.std.specs.Prelude.{ℕ, Bool, List, [], ◌∷◌, map}
use Rattle.oca_types.specs.declared.words.Handle.{Handle}
use Rattle.oca_types.specs.Replies.{Reply}
use Rattle.oca_types.specs.Peers.{CommandFields, fields_of}
use Rattle.oca_types.specs.Status.{status_number}
use Rattle.oca_pdu.specs.declared.message.Form.{Form}
use Rattle.oca_pdu.specs.declared.message.Message.{Message}
use Rattle.oca_pdu.specs.declared.message.Message.TheVariants as messages

-- a response: the handle of its command, the number of its status, ParamCount and the parameters
pub record ResponseFields : Type 0 where
  pub handle : ℕ
  pub status : ℕ
  pub count : ℕ
  pub params : List ℕ

-- a command with whether it asks for a response, a response, or a keep-alive
pub data Msg : Type 0 where
  Command : (respond : Bool) (fields : CommandFields) → Msg
  Response : (fields : ResponseFields) → Msg
  KeepAlive : (form : Form) → Msg

-- a PDU: the messages of one type, or one keep-alive
pub data Pdu : Type 0 where
  Commands : (respond : Bool) (commands : List CommandFields) → Pdu
  Responses : (responses : List ResponseFields) → Pdu
  OneKeepAlive : (form : Form) → Pdu

-- the messages of a PDU in order
abbrev pub messages_of : Pdu → List Msg
messages_of (Commands respond cs) = map (λ c. Command respond c) cs
messages_of (Responses rs) = map (λ r. Response r) rs
messages_of (OneKeepAlive form) = KeepAlive form ∷ []

-- the response that carries this reply
abbrev pub response_with : Handle → Reply → ResponseFields
response_with handle reply = record {
  handle = handle.0;
  status = status_number reply.status;
  count = reply.count;
  params = reply.params.items;
}

-- a message that the iterator gives
abbrev pub msg_of : Message → Msg
msg_of (messages.Command respond command) = Command respond (fields_of command)
msg_of (messages.Response handle status count params) = Response (record {
  handle = handle.0;
  status = status;
  count = count;
  params = params.now;
})
msg_of (messages.KeepAlive form) = KeepAlive form
