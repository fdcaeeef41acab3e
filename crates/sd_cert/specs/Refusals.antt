-- Which lines of a certificate are not those of pairs with these headers and of the digests.
use Rattle.std.specs.Prelude.{ℕ, ◌+◌, ◌==◌, nat_lt, nat_le, min, ◌&&◌, Bool, true, false, List, [], ◌∷◌, length, Option}
use Rattle.std.specs.Prelude.{Some, None, slice_get, ◌-◌, take}
use Rattle.std.specs.Cmp.Lexicographic.{pointwise}
use Rattle.sd_cert.specs.declared.header.PairHeader.{PairHeader}
use Rattle.sd_cert.specs.declared.digest.Digests.{Digests}
use Rattle.sd_cert.specs.declared.fault.CertError.{CertError}
use Rattle.sd_cert.specs.declared.fault.CertError.TheVariants.{OtherOld, OtherNew, OtherSettings, Line as BadLine}
use Rattle.sd_cert.specs.declared.fault.CertError.TheVariants.{Pair as OtherPair}
use Rattle.sd_cert.specs.declared.line.CertState.{CertState}
use Rattle.sd_cert.specs.declared.line.CertState.TheVariants.{Open, Refused}
use Rattle.sd_cert.specs.declared.line.Line.{Line}
use Rattle.sd_cert.specs.declared.line.Line.TheVariants.{Old, New, Settings, Pairs, Pair, Candidate}
use Rattle.sd_cert.specs.declared.refusal.Position.{Position}

abbrev pub fault_unless : Bool → CertError → Option CertError
fault_unless true e = None
fault_unless false e = Some e

abbrev pub or_next : Option CertError → Option CertError → Option CertError
or_next None next = next
or_next (Some e) next = Some e

abbrev pub same_bytes : List ℕ → List ℕ → Bool
same_bytes xs ys = pointwise (λ x y. x == y) xs ys

abbrev pub same_state : CertState → CertState → Bool
same_state Open Open = true
same_state Refused Refused = true
same_state _ _ = false

abbrev pub has_state : Option PairHeader → CertState → Bool
has_state None state = false
has_state (Some s) state = same_state s.state state

abbrev pub candidate_count : Option PairHeader → ℕ
candidate_count None = 0
candidate_count (Some s) = s.candidates

-- where the next line stands
abbrev pub position_after : Position → Line → Position
position_after position (Pair i state) = record { pair = i; least = 0 }
position_after position (Candidate k) = record { pair = position.pair; least = k + 1 }
position_after position _ = position

-- why a line that stands there is refused
abbrev pub refusal : List PairHeader → Digests → Position → Line → Option CertError
refusal headers digests position (Old old) = fault_unless (same_bytes old digests.old) OtherOld
refusal headers digests position (New new) = fault_unless (same_bytes new digests.new) OtherNew
refusal headers digests position (Settings settings) = fault_unless (same_bytes settings digests.settings) OtherSettings
refusal headers digests position (Pairs n) = fault_unless (n == length headers) (OtherPair (min n (length headers)))
refusal headers digests position (Pair i state) = fault_unless (has_state (slice_get headers i) state) (OtherPair i)
refusal headers digests position (Candidate k) =
    fault_unless (nat_le position.least k && nat_lt k (candidate_count (slice_get headers position.pair)))
    (OtherPair position.pair)
refusal headers digests position _ = None

abbrev pub first_position : Position
first_position = record { pair = 0; least = 0 }

-- why the first line that is refused is refused
abbrev pub first_refusal : List PairHeader → Digests → Position → List Line → Option CertError
first_refusal headers digests position [] = None
first_refusal headers digests position (l ∷ ls) =
    or_next (refusal headers digests position l) (first_refusal headers digests (position_after position l) ls)

abbrev pub refusal_or : Option CertError → CertError → CertError
refusal_or None e = e
refusal_or (Some first) e = first

-- why a line before the bad one is refused, or else why the bad one is bad
abbrev pub first_fault : List PairHeader → Digests → List Line → CertError → CertError
first_fault headers digests lines (BadLine n) =
    refusal_or (first_refusal headers digests first_position (take (n - 1) lines)) (BadLine n)
first_fault headers digests lines e = e
