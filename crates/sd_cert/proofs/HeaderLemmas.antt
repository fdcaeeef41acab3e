-- The headers of pairs, and how many candidates they have.
use Rattle.std.proofs.Common.{◌≡◌, ℕ, zero, suc, ◌+◌, ◌-◌, ◌<◌, Bool, List, [], ◌∷◌, ◌++◌, map, take, drop, get_or, length, refl, sym, ap, ◌∙◌, arith, length-append}
use Rattle.std.specs.Prelude.{Some, slice_get}
use Rattle.std.proofs.lemmas.List.{length-map, map-append}
use Rattle.sd_base.proofs.Lists.{take-at, drop-at, slice_get-map_some}
use Rattle.std.proofs.lemmas.Option.{get_or_from_slice_get}
use Rattle.sd_match.specs.declared.pair.Pair.{Pair}
use Rattle.sd_cand.specs.declared.candidate.Candidate.{Candidate}
use Rattle.sd_product.specs.Bodies.{count_before}
use Rattle.sd_product.specs.Query.{Claimed, query_of}
use Rattle.sd_product.specs.Work.{PairedPrograms, candidates_in_pair, infallibles_in, work_of, claims_of, claims_in, pairs_in, queries_of}
use Rattle.sd_cert.specs.declared.line.CertState.{CertState}
use Rattle.sd_cert.specs.declared.header.PairHeader.{PairHeader}
use Rattle.sd_cert.specs.Headers.{state_of, header_of, headers_of, count_of}

module _ (h : PairedPrograms) where
  -- ---- one header more

  pub header-pushed : (pairs : List Pair) (i : ℕ) (p : Pair) (before after : List PairHeader) (s : PairHeader) → i < length pairs → slice_get pairs i ≡ Some p → s ≡ header_of h p → before ≡ map (header_of h) (take i pairs) → after ≡ before ++ s ∷ [] → after ≡ map (header_of h) (take (i + 1) pairs)
  header-pushed pairs i p before after s within found is made pushed =
      let more : take (i + 1) pairs ≡ take i pairs ++ p ∷ [] = take-at pairs i p within (sym (get_or_from_slice_get pairs i p p found)) in
      pushed ∙ ap (λ ss. ss ++ s ∷ []) made ∙ ap (λ x. map (header_of h) (take i pairs) ++ x ∷ []) is
      ∙ sym (map-append (header_of h) (take i pairs) (p ∷ [])) ∙ ap (map (header_of h)) (sym more)

  -- ---- the candidates of all pairs

  headers-count : (pairs : List Pair) → count_of (map (header_of h) pairs) ≡ length (claims_of h pairs)
  headers-count [] = refl
  headers-count (p ∷ ps) =
      let claim : Candidate → Claimed = λ c. record { pair = p; candidate = c } in
      omega (arith, headers-count ps, length-append (map claim (candidates_in_pair h p)) (claims_of h ps), length-map (candidates_in_pair h p) claim)

  -- the candidates of the pairs before one, and of those from it on
  pub before-count : (pairs : List Pair) (i : ℕ) → length (claims_of h (take i pairs)) + count_of (drop i (map (header_of h) pairs)) ≡ length (claims_of h pairs)
  before-count pairs zero = omega (arith, headers-count pairs)
  before-count [] (suc i) = refl
  before-count (p ∷ ps) (suc i) =
      let claim : Candidate → Claimed = λ c. record { pair = p; candidate = c } in
      omega (arith, before-count ps i, length-append (map claim (candidates_in_pair h p)) (claims_of h ps), length-append (map claim (candidates_in_pair h p)) (claims_of h (take i ps)))

  pub header-made : (i : ℕ) (p : Pair) (state : CertState) (first end : ℕ) → slice_get (pairs_in h) i ≡ Some p → i < length (pairs_in h) → state ≡ state_of p.state → first ≡ count_before h i → end ≡ count_before h (i + 1) → ◌≡◌ {A = PairHeader} (record { state = state; candidates = end - first }) (header_of h p)
  header-made i p state first end found within said begins ends =
      let headers = map (header_of h) (pairs_in h) in
      let is : get_or headers i (header_of h p) ≡ header_of h p = get_or_from_slice_get headers i (header_of h p) (header_of h p) (slice_get-map_some (header_of h) (pairs_in h) i p found) in
      let here : drop i headers ≡ header_of h p ∷ drop (i + 1) headers = drop-at headers i (header_of h p) (omega (arith, length-map (pairs_in h) (header_of h))) (sym is) in
      let count : end - first ≡ length (candidates_in_pair h p) = omega (arith, before-count (pairs_in h) i, before-count (pairs_in h) (i + 1), ap count_of here, begins, ends) in
      λ j. record { state = said j; candidates = count j }

pub count-in : (h : PairedPrograms) → count_of (headers_of h) ≡ length (claims_in h)
count-in h = headers-count h (pairs_in h)

queries-count : (h : PairedPrograms) (table : List Bool) → length (queries_of h table) ≡ length (claims_in h)
queries-count h table = length-map (claims_in h) (query_of (work_of h) (infallibles_in h) table)

pub count-own : (h : PairedPrograms) (headers : List PairHeader) → headers ≡ headers_of h → count_of headers ≡ length (claims_in h)
count-own h headers own = ap count_of own ∙ count-in h

-- the numbers of the pairs are those of their queries
pub count-queries : (h : PairedPrograms) (table : List Bool) → 0 + count_of (headers_of h) ≡ length (queries_of h table)
count-queries h table = omega (arith, count-in h, queries-count h table)
