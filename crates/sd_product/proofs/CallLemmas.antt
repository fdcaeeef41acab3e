-- What live candidates that hold say of two calls is true.
use Rattle.std.proofs.Common.{◌≡◌, ℕ, zero, suc, ◌+◌, List, [], ◌∷◌, Some, refl, sym, ap, ◌∙◌, subst, arith}
use Rattle.std.specs.Prelude.{Bool, true, ◌&&◌, map, slice_get, ◌==◌}
use Rattle.std.proofs.lemmas.Bool.{eqb-true}
use Rattle.sd_base.specs.Value.{Value}
use Rattle.sd_core.specs.Run.{Calls}
use Rattle.sd_term.specs.Tree.{Tree}
use Rattle.sd_term.specs.Build.{not_of, or_of}
use Rattle.sd_term.specs.Truth.{Valuation, value, MakesTrue}
use Rattle.sd_vcgen.specs.Body.{Site}
use Rattle.sd_vcgen.specs.Laws.{truth, InputsFit, SiteHolds, SitesHold}
use Rattle.sd_vcgen.proofs.Truths.{first_on, second_on}
use Rattle.sd_product.specs.Relations.{term_of, claim_term, claim_holds}
use Rattle.sd_product.specs.Query.{Claimed, Work, is_live, site_inputs, site_ends, under, implication, is_about, calls_related, with_each, all_related}
use Rattle.sd_product.specs.Summaries.{HoldsOf, EachLive}
use Rattle.sd_product.proofs.Truths.{unless-true, under-true, claim-truth, exit-values, makes-append, makes-if}

module _ (w : Work) (old new : Calls) (v : Valuation) where
  implication-true : (x : Claimed) (a b : Site) → x.pair.old ≡ a.callee → x.pair.new ≡ b.callee → HoldsOf w old new x → SiteHolds w.old old v a → SiteHolds w.new new v b → truth v (implication x a b) ≡ true
  implication-true x a b p q holds sa sb =
      let vs : List Tree → List Value = map (value v) in
      let claim = claim_term x.pair.outputs x.candidate.claim (site_ends a) a.flag (site_ends b) b.flag in
      let rest = under (map (term_of x.pair.inputs (site_inputs a) (site_inputs b)) x.candidate.when) claim in
      unless-true v a.guard (or_of (not_of b.guard) rest)
      (λ on. unless-true v b.guard rest
      (λ on'. under-true v x.pair.inputs (site_inputs a) (site_inputs b) x.candidate.when claim
      (λ h. claim-truth v x.pair.outputs x.candidate.claim (site_ends a) a.flag (site_ends b) b.flag
      ∙ (λ i. claim_holds x.pair.outputs x.candidate.claim (exit-values v a.args a.outs a.after i) (truth v a.flag) (exit-values v b.args b.outs b.after i) (truth v b.flag))
      ∙ holds (vs a.args) (vs a.before) (vs b.args) (vs b.before) (vs a.outs) (vs a.after) (vs b.outs) (vs b.after) (truth v a.flag) (truth v b.flag)
      (subst (λ (k : ℕ). InputsFit w.old k (vs a.args) (vs a.before)) (sym p) (sa on).fits)
      (subst (λ (k : ℕ). InputsFit w.new k (vs b.args) (vs b.before)) (sym q) (sb on').fits)
      (ap (λ (k : ℕ). old k (vs a.args) (vs a.before)) p ∙ (sa on).ends)
      (ap (λ (k : ℕ). new k (vs b.args) (vs b.before)) q ∙ (sb on').ends)
      h)))

  -- the candidates from n on hold where they are live
  abbrev LiveFrom : List Bool → ℕ → List Claimed → Type 0
  LiveFrom table n xs = (k : ℕ) (x : Claimed) → slice_get xs k ≡ Some x → is_live table (n + k) ≡ true → HoldsOf w old new x

  live-first : (table : List Bool) (n : ℕ) (x : Claimed) (xs : List Claimed) → LiveFrom table n (x ∷ xs) → is_live table n ≡ true → HoldsOf w old new x
  live-first table n x xs h on =
      let here : n ≡ n + zero = omega arith in
      h zero x refl (subst (λ (k : ℕ). is_live table k ≡ true) here on)

  live-rest : (table : List Bool) (n : ℕ) (x : Claimed) (xs : List Claimed) → LiveFrom table n (x ∷ xs) → LiveFrom table (suc n) xs
  live-rest table n x xs h k y e on =
      let there : suc n + k ≡ n + suc k = omega arith in
      h (suc k) y e (subst (λ (m : ℕ). is_live table m ≡ true) there on)

  calls-true : (table : List Bool) (n : ℕ) (xs : List Claimed) (a b : Site) → LiveFrom table n xs → SiteHolds w.old old v a → SiteHolds w.new new v b → MakesTrue v (calls_related table n xs a b)
  calls-true table n [] a b h sa sb = tt
  calls-true table n (x ∷ xs) a b h sa sb =
      makes-append v _ (calls_related table (suc n) xs a b)
      (makes-if v (is_live table n && is_about x a b) (implication x a b) (λ on.
      let live = first_on (is_live table n) (is_about x a b) on in
      let about = second_on (is_live table n) (is_about x a b) on in
      let is_old = first_on (x.pair.old == a.callee) (x.pair.new == b.callee) about in
      let is_new = second_on (x.pair.old == a.callee) (x.pair.new == b.callee) about in
      implication-true x a b (eqb-true x.pair.old a.callee is_old) (eqb-true x.pair.new b.callee is_new) (live-first table n x xs h live) sa sb))
      (calls-true table (suc n) xs a b (live-rest table n x xs h) sa sb)

  each-true : (table : List Bool) (xs : List Claimed) (a : Site) (bs : List Site) → LiveFrom table 0 xs → SiteHolds w.old old v a → SitesHold w.new new v bs → MakesTrue v (with_each table xs a bs)
  each-true table xs a [] h sa sb = tt
  each-true table xs a (b ∷ bs) h sa sb =
      makes-append v (calls_related table 0 xs a b) (with_each table xs a bs) (calls-true table 0 xs a b h sa sb.0) (each-true table xs a bs h sa sb.1)

  all-true : (table : List Bool) (xs : List Claimed) (as' bs : List Site) → LiveFrom table 0 xs → SitesHold w.old old v as' → SitesHold w.new new v bs → MakesTrue v (all_related table xs as' bs)
  all-true table xs [] bs h sa sb = tt
  all-true table xs (a ∷ as') bs h sa sb =
      makes-append v (with_each table xs a bs) (all_related table xs as' bs) (each-true table xs a bs h sa.0 sb) (all-true table xs as' bs h sa.1 sb)

  pub related-true : (table : List Bool) (as' bs : List Site) → EachLive w table (HoldsOf w old new) → SitesHold w.old old v as' → SitesHold w.new new v bs → MakesTrue v (all_related table w.claims as' bs)
  related-true table as' bs h sa sb =
      all-true table w.claims as' bs (λ k x e on. let there : 0 + k ≡ k = omega arith in h k x e (subst (λ (m : ℕ). is_live table m ≡ true) there on)) sa sb
