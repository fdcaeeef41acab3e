-- Calls by numbers, over a bank that grows.
use Rattle.std.proofs.Common.{◌≡◌, ℕ, zero, suc, ◌<◌, List, [], ◌∷◌, ◌++◌, length, get_or, refl, sym, ap, subst, ◌∙◌, arith}
use Rattle.std.specs.Prelude.{All, map}
use Rattle.std.proofs.lemmas.List.{map-append, append-nil}
use Rattle.sd_term.specs.Tree.{Tree}
use Rattle.sd_term.specs.Bank.{tree_at}
use Rattle.sd_term.specs.Build.{Extends}
use Rattle.sd_vcgen.specs.declared.call.Site.{Site}
use Rattle.sd_vcgen.specs.Body as spec
use Rattle.sd_vcgen.specs.Numbers.{DenoteSites, IsSiteWithin, site_at}
use Rattle.sd_vcgen.proofs.Numbers.{site_later, site_for, is_site_within}
use Rattle.sd_product.specs.declared.relations.StateTerms.{StateTerms}
use Rattle.sd_product.specs.Query.{site_inputs, site_ends}
use Rattle.sd_product.specs.Numbers.{store_at}

pub site_stays : (a b : List Tree) (n : Site) → Extends a b → IsSiteWithin a n → IsSiteWithin b n
site_stays a b n h w = is_site_within b n (site_at a n) (site_later a b n (site_at a n) h w)

pub site_same : (a b : List Tree) (n : Site) → Extends a b → IsSiteWithin a n → site_at b n ≡ site_at a n
site_same a b n h w = site_for b n (site_at a n) (site_later a b n (site_at a n) h w)

pub sites_stay : (a b : List Tree) (ns : List Site) → Extends a b → All (IsSiteWithin a) ns → All (IsSiteWithin b) ns
sites_stay a b ns h w = λ k d lt. site_stays a b (get_or ns k d) h (w k d lt)

pub sites_same : (a b : List Tree) (ns : List Site) → Extends a b → All (IsSiteWithin a) ns → map (site_at b) ns ≡ map (site_at a) ns
sites_same a b [] h w = refl
sites_same a b (n ∷ ns) h w =
    let first = site_same a b n h (w 0 n (omega arith)) in
    let others = sites_same a b ns h (λ k d lt. w (suc k) d (omega (arith, lt))) in
    λ i. first i ∷ others i

sites_within-cons : (bank : List Tree) (n : Site) (ns : List Site) → IsSiteWithin bank n → All (IsSiteWithin bank) ns → All (IsSiteWithin bank) (n ∷ ns)
sites_within-cons bank n ns h k zero e lt = h
sites_within-cons bank n ns h k (suc i) e lt = k i e (omega (arith, lt))

pub sites_within : (bank : List Tree) (ns : List Site) (ss : List spec.Site) → DenoteSites bank ns ss → All (IsSiteWithin bank) ns
sites_within bank [] [] d = λ k e lt. absurd (omega (arith, lt))
sites_within bank [] (s ∷ ss) d = absurd d
sites_within bank (n ∷ ns) [] d = absurd d
sites_within bank (n ∷ ns) (s ∷ ss) d = sites_within-cons bank n ns (is_site_within bank n s d.0) (sites_within bank ns ss d.1)

-- one of some
pub site_of_all : (bank : List Tree) (ns : List Site) (i : ℕ) (n : Site) → All (IsSiteWithin bank) ns → i < length ns → n ≡ get_or ns i n → IsSiteWithin bank n
site_of_all bank ns i n w lt e = subst (IsSiteWithin bank) (sym e) (w i n lt)

-- ---- what they begin and end with

pub inputs_are : (bank : List Tree) (n : StateTerms) (s : Site) → n.ins.now ≡ s.args → n.outs.now ≡ [] → n.globals.now ≡ s.before → store_at bank n ≡ site_inputs (site_at bank s)
inputs_are bank n s hi ho hg =
    let slots = (λ i. map (tree_at bank) (hi i ++ ho i)) ∙ ap (map (tree_at bank)) (append-nil s.args) in
    λ i. record { slots = slots i; globals = map (tree_at bank) (hg i) }

pub ends_are : (bank : List Tree) (n : StateTerms) (s : Site) → n.ins.now ≡ s.args → n.outs.now ≡ s.outs → n.globals.now ≡ s.after → store_at bank n ≡ site_ends (site_at bank s)
ends_are bank n s hi ho hg =
    let slots = (λ i. map (tree_at bank) (hi i ++ ho i)) ∙ map-append (tree_at bank) s.args s.outs in
    λ i. record { slots = slots i; globals = map (tree_at bank) (hg i) }
