-- No line of a certificate is refused just where it fits the digests and the pairs.
use Rattle.std.proofs.Common.{◌≡◌, ℕ, zero, suc, ◌+◌, Bool, true, false, List, [], ◌∷◌, ◌++◌, map, length, drop, refl, sym, ap, ◌∙◌, subst, arith, append_assoc, eqb-true, eq-eqb, leb-true, le-leb, ltb-true, lt-ltb, add-one}
use Rattle.std.proofs.lemmas.Bool.{and_parts}
use Rattle.std.specs.Prelude.{Option, Some, None, slice_get, nat_lt, nat_le, min}
use Rattle.std.specs.List.{flat_map}
use Rattle.std.specs.Cmp.Derive.{both_true}
use Rattle.std.proofs.lemmas.Slice.Eq.{slice_eq-Decides}
use Rattle.std.proofs.lemmas.Bool.Decides.{Decides-eqb}
use Rattle.sd_kernel.specs.declared.Step.{Step}
use Rattle.sd_kernel.specs.declared.Step.TheVariants.{Rows as RowsStep}
use Rattle.sd_kernel.specs.declared.RowLine.{RowLine}
use Rattle.sd_kernel.specs.declared.How.{How}
use Rattle.sd_kernel.specs.declared.How.TheVariants.{Steps}
use Rattle.sd_kernel.specs.declared.Proved.{Proved}
use Rattle.sd_cert.specs.declared.header.PairHeader.{PairHeader}
use Rattle.sd_product.specs.Inductive.{proved_of}
use Rattle.sd_cert.specs.declared.digest.Digests.{Digests}
use Rattle.sd_cert.specs.declared.certificate.CertPair.{CertPair}
use Rattle.sd_cert.specs.declared.certificate.Certificate.{Certificate}
use Rattle.sd_cert.specs.declared.fault.CertError.{CertError}
use Rattle.sd_cert.specs.declared.fault.CertError.TheVariants.{Pair as OtherPair, OtherOld, OtherNew, OtherSettings}
use Rattle.sd_cert.specs.declared.line.CertState.{CertState}
use Rattle.sd_cert.specs.declared.line.CertState.TheVariants.{Open, Refused}
use Rattle.sd_cert.specs.declared.line.Line.{Line}
use Rattle.sd_cert.specs.declared.line.Line.TheVariants.{Row, End}
use Rattle.sd_cert.specs.declared.refusal.Position.{Position}
use Rattle.sd_cert.specs.Certificates.{step_lines, how_lines, proved_lines, pair_lines, certificate_lines}
use Rattle.sd_cert.specs.Accepts.{Ascend, FitsPairs}
use Rattle.sd_cert.proofs.Listing.{fits-length}
use Rattle.sd_cert.specs.Refusals.{fault_unless, or_next, same_bytes, same_state, has_state, candidate_count, first_position, first_refusal}

-- ---- tests

unless-none : (b : Bool) (e : CertError) → fault_unless b e ≡ None → b ≡ true
unless-none true e h = refl
unless-none false e h = absurd (cc)

pub next-none : (a b : Option CertError) → or_next a b ≡ None → (a ≡ None) × (b ≡ None)
next-none None b h = (refl, h)
next-none (Some e) b h = absurd (cc)

none-next : (b : Bool) (e : CertError) (next : Option CertError) → b ≡ true → next ≡ None → or_next (fault_unless b e) next ≡ None
none-next true e next h k = k
none-next false e next h k = absurd (cc)

bytes-exact : (xs ys : List ℕ) → (same_bytes xs ys ≡ true → xs ≡ ys) × (xs ≡ ys → same_bytes xs ys ≡ true)
bytes-exact xs ys = slice_eq-Decides Decides-eqb xs ys (same_bytes xs ys) refl

-- ---- states

state-exact : (s t : CertState) → (same_state s t ≡ true → t ≡ s) × (t ≡ s → same_state s t ≡ true)
state-exact Open Open = (λ h. refl, λ h. refl)
state-exact Refused Refused = (λ h. refl, λ h. refl)
state-exact _ _ = (λ h. absurd (cc), λ h. absurd (cc))

found-at : (xs : List PairHeader) (i : ℕ) (x : PairHeader) (ys : List PairHeader) → drop i xs ≡ x ∷ ys → (slice_get xs i ≡ Some x) × (drop (suc i) xs ≡ ys)
found-at [] zero x ys h = absurd (cc)
found-at [] (suc i) x ys h = absurd (cc)
found-at (y ∷ xs) zero x ys h = (let e : y ≡ x = cc in cc, let e : xs ≡ ys = cc in e)
found-at (y ∷ xs) (suc i) x ys h = found-at xs i x ys h

at-position : ℕ → ℕ → Position
at-position i least = record { pair = i; least = least }

module _ (headers : List PairHeader) (d : Digests) where
  rows-pass : (position : Position) (rows : List RowLine) (ls : List Line) → first_refusal headers d position (map Row rows ++ ls) ≡ first_refusal headers d position ls
  rows-pass position [] ls = refl
  rows-pass position (r ∷ rows) ls = rows-pass position rows ls

  step-pass : (position : Position) (s : Step) (ls : List Line) → first_refusal headers d position (step_lines s ++ ls) ≡ first_refusal headers d position ls
  step-pass position (RowsStep rows) ls = rows-pass position rows ls
  step-pass position _ ls = refl

  steps-pass : (position : Position) (ss : List Step) (ls : List Line) → first_refusal headers d position (flat_map step_lines ss ++ ls) ≡ first_refusal headers d position ls
  steps-pass position [] ls = refl
  steps-pass position (s ∷ ss) ls =
      ap (first_refusal headers d position) (append_assoc (step_lines s) (flat_map step_lines ss) ls) ∙ step-pass position s (flat_map step_lines ss ++ ls)
      ∙ steps-pass position ss ls

  how-pass : (position : Position) (h : How) (ls : List Line) → first_refusal headers d position (how_lines h ++ ls) ≡ first_refusal headers d position ls
  how-pass position (Steps p) ls = steps-pass position p.steps ls

  -- ---- entries

  entries-ascend : (i least : ℕ) (ps : List Proved) (ls : List Line) → first_refusal headers d (at-position i least) (flat_map proved_lines ps ++ ls) ≡ None → Ascend least (candidate_count (slice_get headers i)) (proved_of ps) × ((m : ℕ) × (first_refusal headers d (at-position i m) ls ≡ None))
  unfolding at-position
  entries-ascend i least [] ls h = (tt, (least, h))
  entries-ascend i least (p ∷ ps) ls h =
      let others = flat_map proved_lines ps ++ ls in
      let parts = next-none _ _ (sym (ap (first_refusal headers d (at-position i least)) (append_assoc (proved_lines p) (flat_map proved_lines ps) ls)) ∙ h) in
      let tests = and_parts (nat_le least p.candidate) (nat_lt p.candidate (candidate_count (slice_get headers i))) (unless-none _ (OtherPair i) parts.0) in
      let more = entries-ascend i (p.candidate + 1) ps ls (sym (how-pass (at-position i (p.candidate + 1)) p.how others) ∙ parts.1) in
      ((leb-true _ _ tests.0, ltb-true _ _ tests.1, more.0), more.1)

  entries-pass : (i least : ℕ) (ps : List Proved) (ls : List Line) → Ascend least (candidate_count (slice_get headers i)) (proved_of ps) → ((m : ℕ) → first_refusal headers d (at-position i m) ls ≡ None) → first_refusal headers d (at-position i least) (flat_map proved_lines ps ++ ls) ≡ None
  unfolding at-position
  entries-pass i least [] ls a h = h least
  entries-pass i least (p ∷ ps) ls a h =
      let others = flat_map proved_lines ps ++ ls in
      ap (first_refusal headers d (at-position i least)) (append_assoc (proved_lines p) (flat_map proved_lines ps) ls)
      ∙ none-next _ (OtherPair i) _ (both_true (le-leb _ _ a.0) (lt-ltb _ _ a.1)) (how-pass (at-position i (p.candidate + 1)) p.how others ∙ entries-pass i (p.candidate + 1) ps ls a.2 h)

  -- ---- pairs

  below : (i : ℕ) (p : CertPair) (ps : List CertPair) → (flat_map proved_lines p.proved ++ pair_lines (i + 1) ps) ++ End ∷ [] ≡ flat_map proved_lines p.proved ++ (pair_lines (i + 1) ps ++ End ∷ [])
  below i p ps = append_assoc (flat_map proved_lines p.proved) (pair_lines (i + 1) ps) (End ∷ [])

  pairs-fit : (position : Position) (i : ℕ) (ss : List PairHeader) (ps : List CertPair) → drop i headers ≡ ss → length ss ≡ length ps → first_refusal headers d position (pair_lines i ps ++ End ∷ []) ≡ None → FitsPairs ss ps
  unfolding at-position
  pairs-fit position i [] [] e n h = tt
  pairs-fit position i [] (p ∷ ps) e n h = absurd (omega arith)
  pairs-fit position i (s ∷ ss) [] e n h = absurd (omega arith)
  pairs-fit position i (s ∷ ss) (p ∷ ps) e n h =
      let found = found-at headers i s ss e in
      let parts = next-none _ _ h in
      let left = entries-ascend i 0 p.proved (pair_lines (i + 1) ps ++ End ∷ []) (sym (ap (first_refusal headers d (at-position i 0)) (below i p ps)) ∙ parts.1) in
      let test : has_state (Some s) p.state ≡ true = sym (ap (λ o. has_state o p.state) found.0) ∙ unless-none _ (OtherPair i) parts.0 in (
        record {
          state = (state-exact s.state p.state).0 test;
          numbers = subst (λ (o : Option PairHeader). Ascend 0 (candidate_count o) (proved_of p.proved)) found.0 left.0;
        },
        pairs-fit (at-position i left.1.0) (i + 1) ss ps (ap (λ k. drop k headers) (add-one i) ∙ found.1) (omega arith) left.1.1,
      )

  pairs-pass : (position : Position) (i : ℕ) (ss : List PairHeader) (ps : List CertPair) → drop i headers ≡ ss → FitsPairs ss ps → first_refusal headers d position (pair_lines i ps ++ End ∷ []) ≡ None
  unfolding at-position
  pairs-pass position i [] [] e f = refl
  pairs-pass position i [] (p ∷ ps) e f = absurd f
  pairs-pass position i (s ∷ ss) [] e f = absurd f
  pairs-pass position i (s ∷ ss) (p ∷ ps) e f =
      let found = found-at headers i s ss e in
      let test : has_state (slice_get headers i) p.state ≡ true = ap (λ o. has_state o p.state) found.0 ∙ (state-exact s.state p.state).1 f.0.state in
      let numbers = subst (λ (o : Option PairHeader). Ascend 0 (candidate_count o) (proved_of p.proved)) (sym found.0) f.0.numbers in
      none-next _ (OtherPair i) _ test
      (ap (first_refusal headers d (at-position i 0)) (below i p ps)
      ∙ entries-pass i 0 p.proved (pair_lines (i + 1) ps ++ End ∷ []) numbers (λ m. pairs-pass (at-position i m) (i + 1) ss ps (ap (λ k. drop k headers) (add-one i) ∙ found.1) f.1))

  -- ---- certificates

  pub certificate-fits : (c : Certificate) → first_refusal headers d first_position (certificate_lines c) ≡ None → (c.digests ≡ d) × FitsPairs headers c.pairs
  certificate-fits c h =
      let old = next-none _ _ h in
      let new = next-none _ _ old.1 in
      let settings = next-none _ _ new.1 in
      let count = next-none _ _ settings.1 in
      let same_old : c.digests.old ≡ d.old = (bytes-exact _ _).0 (unless-none _ OtherOld old.0) in
      let same_new : c.digests.new ≡ d.new = (bytes-exact _ _).0 (unless-none _ OtherNew new.0) in
      let same_settings : c.digests.settings ≡ d.settings = (bytes-exact _ _).0 (unless-none _ OtherSettings settings.0) in
      let same_count : length c.pairs ≡ length headers = eqb-true _ _ (unless-none _ (OtherPair (min (length c.pairs) (length headers))) count.0) in (
        λ i. record { old = same_old i; new = same_new i; settings = same_settings i },
        pairs-fit first_position 0 headers c.pairs refl (sym same_count) count.1,
      )

  pub certificate-passes : (c : Certificate) → c.digests ≡ d → FitsPairs headers c.pairs → first_refusal headers d first_position (certificate_lines c) ≡ None
  certificate-passes c e f =
      none-next _ OtherOld _ ((bytes-exact _ _).1 (ap (λ (x : Digests). x.old) e))
      (none-next _ OtherNew _ ((bytes-exact _ _).1 (ap (λ (x : Digests). x.new) e))
      (none-next _ OtherSettings _ ((bytes-exact _ _).1 (ap (λ (x : Digests). x.settings) e))
      (none-next _ (OtherPair (min (length c.pairs) (length headers))) _ (eq-eqb _ _ (sym (fits-length headers c.pairs f)))
      (pairs-pass first_position 0 headers c.pairs refl f))))
