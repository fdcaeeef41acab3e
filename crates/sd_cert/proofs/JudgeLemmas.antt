-- No step of a certificate that fits the pairs is bad just where its entries are proofs of these queries.
use Rattle.std.proofs.Common.{slice_get, ◌≡◌, ℕ, ◌+◌, ◌≤◌, List, [], ◌∷◌, map, length, get_or, refl, sym, ap, ◌∙◌, subst, arith}
use Rattle.std.specs.Prelude.{Option, Some, None}
use Rattle.std.specs.List.{AllByRecursion, flat_map}
use Rattle.std.proofs.lemmas.Option.{same_Some, slice_get-get_or}
use Rattle.sd_term.specs.Tree.{Tree}
use Rattle.sd_kernel.specs.Proof.{verdict}
use Rattle.sd_kernel.proofs.Refuted.{verdict-exact}
use Rattle.sd_kernel.specs.declared.step.Verdict.{Verdict}
use Rattle.sd_kernel.specs.declared.step.Verdict.TheVariants.{Accepted, Rejected}
use Rattle.sd_kernel.specs.declared.How.{How}
use Rattle.sd_kernel.specs.declared.How.TheVariants.{Steps}
use Rattle.sd_kernel.specs.declared.Proved.{Proved}
use Rattle.sd_product.specs.Inductive.{proved_of, IsHow, IsProved}
use Rattle.sd_cert.specs.declared.header.PairHeader.{PairHeader}
use Rattle.sd_cert.specs.declared.certificate.CertPair.{CertPair}
use Rattle.sd_cert.specs.declared.fault.CertError.{CertError}
use Rattle.sd_base.proofs.Lists.{all-append, all-front, all-back}
use Rattle.sd_cert.specs.Certificates.{proved_lines}
use Rattle.sd_cert.specs.Accepts.{Ascend, FitsPairs, entry_from, proofs_from}
use Rattle.sd_cert.specs.Refusals.{or_next}
use Rattle.sd_cert.specs.BadSteps.{verdict_fault, how_fault, entry_fault, entries_fault, pairs_fault}
use Rattle.sd_cert.specs.Headers.{count_of}
use Rattle.sd_cert.proofs.RefusalLemmas.{next-none}

none-next : (a b : Option CertError) → a ≡ None → b ≡ None → or_next a b ≡ None
none-next a b h k = ap (λ o. or_next o b) h ∙ k

accepted : (line : ℕ) (r : Verdict) → verdict_fault line r ≡ None → r ≡ Accepted
accepted line Accepted h = refl
accepted line (Rejected n c) h = absurd (cc)

how-exact : (line : ℕ) (facts : List Tree) (h : How) → (how_fault line facts h ≡ None → IsHow facts h) × (IsHow facts h → how_fault line facts h ≡ None)
how-exact line facts (Steps p) =
    let exact = verdict-exact facts p.steps (verdict facts p.steps) refl in
    (λ k. exact.0 (accepted line (verdict facts p.steps) k), λ k. ap (verdict_fault line) (exact.1 k))

module _ (queries : List (List Tree)) where
  entries-exact : (n line least bound : ℕ) (ps : List Proved) → n + bound ≤ length queries → Ascend least bound (proved_of ps) → (entries_fault queries n line ps ≡ None → AllByRecursion (IsProved queries) (map (entry_from n) ps)) × (AllByRecursion (IsProved queries) (map (entry_from n) ps) → entries_fault queries n line ps ≡ None)
  entries-exact n line least bound [] w a = (λ h. tt, λ h. refl)
  entries-exact n line least bound (p ∷ ps) w a =
      let below = a.1 in
      let facts = get_or queries (n + p.candidate) [] in
      let query : slice_get queries (n + p.candidate) ≡ Some facts = slice_get-get_or queries (n + p.candidate) [] (omega arith) in
      let how = how-exact (line + 1) facts p.how in
      let more = entries-exact n (line + length (proved_lines p)) (p.candidate + 1) bound ps w a.2 in (
        λ h. let parts = next-none (entry_fault queries n line p) _ h in (record { facts = facts; query = query; how = how.0 parts.0 }, more.0 parts.1),
        λ h. none-next (entry_fault queries n line p) _ (how.1 (subst (λ (ts : List Tree). IsHow ts p.how) (same_Some h.0.facts facts (sym h.0.query ∙ query)) h.0.how)) (more.1 h.1),
      )

  -- no step of pairs whose candidates are numbered from n on is bad just where their entries are proofs
  pub pairs-exact : (n line : ℕ) (ss : List PairHeader) (ps : List CertPair) → n + count_of ss ≡ length queries → FitsPairs ss ps → (pairs_fault queries n line ss ps ≡ None → AllByRecursion (IsProved queries) (proofs_from n ss ps)) × (AllByRecursion (IsProved queries) (proofs_from n ss ps) → pairs_fault queries n line ss ps ≡ None)
  pairs-exact n line [] [] w a = (λ h. tt, λ h. refl)
  pairs-exact n line [] (p ∷ ps) w a = absurd a
  pairs-exact n line (s ∷ ss) [] w a = absurd a
  pairs-exact n line (s ∷ ss) (p ∷ ps) w a =
      let first = map (entry_from n) p.proved in
      let others = proofs_from (n + s.candidates) ss ps in
      let own = entries-exact n (line + 1) 0 s.candidates p.proved (omega arith) a.0.numbers in
      let more = pairs-exact (n + s.candidates) (line + 1 + length (flat_map proved_lines p.proved)) ss ps (omega arith) a.1 in (
        λ h. let parts = next-none (entries_fault queries n (line + 1) p.proved) _ h in all-append (IsProved queries) first others (own.0 parts.0) (more.0 parts.1),
        λ h. none-next (entries_fault queries n (line + 1) p.proved) _ (own.1 (all-front (IsProved queries) first others h)) (more.1 (all-back (IsProved queries) first others h)),
      )
