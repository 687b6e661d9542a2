-- What was delivered, of an end that tells; and a delivery that is heard so, of one that does not.
use Rattle.std.proofs.Common.{◌≡◌, ℕ, zero, suc, ◌<◌, Bool, true, false, List, [], ◌∷◌, ◌++◌, length, refl, sym, ap, subst, arith}
use Rattle.std.specs.Prelude.{IsTrue, Option, None}
use Rattle.std.specs.declared.io.Error.{Error}
use Rattle.std.proofs.lemmas.Bool.{false≢true}
use Rattle.oca_types.specs.declared.words.Peer.{Peer}
use Rattle.oca_net.specs.declared.end.Heard.{Heard}
use Rattle.oca_net.specs.declared.end.Heard.TheVariants as heard
use Rattle.oca_net.specs.Deliveries.{Datagram}
use Rattle.oca_net.specs.Ends.{Delivers, IsHeardBy, largest_datagram}
use Rattle.oca_net.specs.Sockets.{IsWhy, ReturnsMoment}
use Rattle.oca_net.specs.EndStates.{EndState, Receives}

-- a datagram of more than 1,472 bytes, which is what was delivered where the end tells
pub record Oversize (now : ℕ) (old new : EndState) : Type 0 where
  pub from : Peer
  pub long : List ℕ
  pub above : largest_datagram < length long
  pub grew : IsTrue old.tells → new.delivered ≡ old.delivered ++ Datagram from long now ∷ []

-- what is received as too large was too large
pub oversize_heard : {now : ℕ} {bytes : List ℕ} {old new : EndState} → Receives (heard.Oversize now) bytes old new → Oversize now old new
oversize_heard {now} {bytes} {old} {new} r = let d = by_tells old.tells r.delivered in record { from = d.0; long = d.1; above = d.2; grew = d.3 }
  where
    zeros : ℕ → List ℕ
    zeros zero = []
    zeros (suc n) = 0 ∷ zeros n

    length_zeros : (n : ℕ) → length (zeros n) ≡ n
    length_zeros zero = refl
    length_zeros (suc n) = ap suc (length_zeros n)

    above_all : (n : ℕ) → 1472 < n → 1472 < length (zeros n)
    above_all n h = subst (λ (k : ℕ). 1472 < k) (sym (length_zeros n)) h

    by_tells : (b : Bool) → (IsTrue b → Delivers (heard.Oversize now) bytes old.delivered new.delivered) →
        (from : Peer) × (long : List ℕ) × (largest_datagram < length long) × (IsTrue b → new.delivered ≡ old.delivered ++ Datagram from long now ∷ [])
    by_tells true f = let d = f refl in (d.0, d.1, d.2, λ _. d.3)
    by_tells false f = (record { ip = 0; port = 0 }, zeros 1473, above_all 1473 (omega arith), λ told. absurd (false≢true told))

-- what says this moment is heard by then
pub heard_by : (h : Heard) (t : ℕ) → ReturnsMoment h t → IsHeardBy t h
heard_by (heard.Datagram from now) t e = omega (arith, e)
heard_by (heard.Quiet now) t e = omega (arith, e)
heard_by (heard.Oversize now) t e = omega (arith, e)
heard_by heard.Failed t e = tt
heard_by heard.Closed t e = tt

-- what was heard needs no reason
pub why_heard : (h : Heard) (noted given : Option Error) → IsWhy h None None → IsWhy h noted given
why_heard (heard.Datagram from now) noted given w = tt
why_heard (heard.Quiet now) noted given w = absurd (false≢true w.0)
why_heard (heard.Oversize now) noted given w = tt
why_heard heard.Failed noted given w = absurd (false≢true w.0)
why_heard heard.Closed noted given w = tt
