-- The headers of pairs, which the pairs of a certificate must fit.
use Rattle.std.specs.Prelude.{ℕ, ◌+◌, List, [], ◌∷◌, map, length}
use Rattle.sd_match.specs.declared.pair.PairState.{PairState}
use Rattle.sd_match.specs.declared.pair.PairState.TheVariants.{Open}
use Rattle.sd_match.specs.declared.pair.Pair.{Pair}
use Rattle.sd_product.specs.Work.{PairedPrograms, pairs_in, candidates_in_pair}
use Rattle.sd_cert.specs.declared.line.CertState.{CertState}
use Rattle.sd_cert.specs.declared.line.CertState.TheVariants as said
use Rattle.sd_cert.specs.declared.header.PairHeader.{PairHeader}

-- what a certificate says of a pair with this state
abbrev pub state_of : PairState → CertState
state_of Open = said.Open
state_of _ = said.Refused

-- the state of a pair, and how many candidates it has
abbrev pub header_of : PairedPrograms → Pair → PairHeader
header_of work pair = record { state = state_of pair.state; candidates = length (candidates_in_pair work pair) }

abbrev pub headers_of : PairedPrograms → List PairHeader
headers_of work = map (header_of work) (pairs_in work)

-- how many candidates all pairs have
abbrev pub count_of : List PairHeader → ℕ
count_of [] = 0
count_of (s ∷ ss) = s.candidates + count_of ss
