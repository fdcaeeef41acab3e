-- Calls that have been made on numbers.
use Rattle.std.proofs.Common.{◌≡◌, ℕ, zero, suc, ◌+◌, ◌<◌, List, [], ◌∷◌, ◌++◌, length, drop, get_or, refl, sym, ap, subst, ◌∙◌, arith}
use Rattle.std.specs.Prelude.{All, map, min, set}
use Rattle.std.proofs.lemmas.List.{map-set}
use Rattle.std.proofs.lemmas.List.Elements.{All-set}
use Rattle.sd_base.specs.declared.Sort.{Sort}
use Rattle.sd_core.specs.declared.CoreExpr.{CoreExpr}
use Rattle.sd_core.specs.declared.CoreProc.{CoreProc}
use Rattle.sd_core.specs.declared.Function.{Function}
use Rattle.sd_core.specs.declared.Spot.{Spot}
use Rattle.sd_core.specs.declared.Spot.TheVariants.{Global}
use Rattle.sd_core.specs.Formed.{sorts_of}
use Rattle.sd_core.specs.Store.{Store, set_all}
use Rattle.sd_term.specs.declared.node.Head.TheVariants as head
use Rattle.sd_term.specs.Tree.{Tree, leaf}
use Rattle.sd_term.specs.Bank.{tree_at}
use Rattle.sd_term.specs.Build.{Extends, not_of, and_of}
use Rattle.sd_vcgen.specs.Body.{State, Context, term_in, symbols, site_flag, changed, site_of}
use Rattle.sd_vcgen.specs.Body as spec
use Rattle.sd_vcgen.specs.Numbers.{Denotes, DenoteAll, DenotesSite, DenoteSites, site_at, IsSiteWithin, AreWithin, store_of, Stands, state_of, IsWithin}
use Rattle.sd_vcgen.specs.declared.body.BodyState.{BodyState}
use Rattle.sd_vcgen.specs.declared.call.Site.{Site}
use Rattle.sd_vcgen.specs.declared.spots.Spots.{Spots}
use Rattle.sd_vcgen.proofs.Numbers.{extends_self, extends_then, denotes_later, denote_all_later, all_later, trees_later, site_later, site_for, sites_push, spots_later, store_later, stands_later, stands_for, guarded}
use Rattle.sd_vcgen.proofs.Loops.{drop_split}

-- ---- globals after a call

-- all pairs of places and new terms have had their turn
pub set_all_done : (xs ps news : List ℕ) (k : ℕ) → k ≡ min (length ps) (length news) → set_all xs (drop k ps) (drop k news) ≡ xs
set_all_done xs [] news zero e = refl
set_all_done xs [] news (suc k) e = refl
set_all_done xs (p ∷ ps) [] zero e = refl
set_all_done xs (p ∷ ps) [] (suc k) e = absurd (omega (arith, e))
set_all_done xs (p ∷ ps) (y ∷ news) zero e = absurd (omega (arith, e))
set_all_done xs (p ∷ ps) (y ∷ news) (suc k) e = set_all_done xs ps news k (omega (arith, e))

pub map-set_all : {A B : Type 0} (f : A → B) (xs : List A) (ps : List ℕ) (news : List A) → map f (set_all xs ps news) ≡ set_all (map f xs) ps (map f news)
map-set_all f xs [] news = refl
map-set_all f xs (p ∷ ps) [] = refl
map-set_all f xs (p ∷ ps) (y ∷ news) = map-set_all f (set xs p y) ps news ∙ ap (λ (l : List _). set_all l ps (map f news)) (map-set f xs p y)

-- the first of some, and the others
all_first : {A : Type 0} (P : A → Type 0) (x : A) (xs : List A) → All P (x ∷ xs) → P x
all_first P x xs h = h 0 x (omega arith)

all_others : {A : Type 0} (P : A → Type 0) (x : A) (xs : List A) → All P (x ∷ xs) → All P xs
all_others P x xs h = λ k d lt. h (suc k) d (omega (arith, lt))

pub All-set_all : {A : Type 0} (P : A → Type 0) (xs : List A) (ps : List ℕ) (news : List A) → All P xs → All P news → All P (set_all xs ps news)
All-set_all P xs [] news h g = h
All-set_all P xs (p ∷ ps) [] h g = h
All-set_all P xs (p ∷ ps) (y ∷ news) h g = All-set_all P (set xs p y) ps news (All-set P xs p y (all_first P y news g) h) (all_others P y news g)

-- ---- symbols

pub symbols_split : (k next i : ℕ) (ss : List Sort) (s : Sort) → i < length ss → s ≡ get_or ss i s → next ≡ k + 1 → symbols k (drop i ss) ≡ leaf (head.Sym k s) ∷ symbols next (drop (i + 1) ss)
symbols_split k next i ss s lt e more =
    let one : suc k ≡ next = omega (arith, more) in
    ap (symbols k) (drop_split ss i s s lt e) ∙ ap (λ (j : ℕ). leaf (head.Sym k s) ∷ symbols j (drop (i + 1) ss)) one

-- ---- the record of a call

pub site_made : (a b d e : List Tree) (C : Context) (F : List Function) (k : ℕ) (n : BodyState) (p : CoreProc) (q path : ℕ) (es : List CoreExpr) (site : Site) (news : List ℕ) → IsWithin a n → path < length a
    → Extends a b → Denotes b site.guard (and_of (tree_at a path) (not_of (tree_at a n.gone)))
    → F ≡ C.program.functions → Extends b d → DenoteAll d site.args (map (term_in F (store_of b n.spots)) es)
    → site.before ≡ n.spots.globals → Extends d e → DenoteAll e site.outs (symbols k (sorts_of p.outs)) → DenoteAll e news (changed C.program k p) → Denotes e site.flag (site_flag (C.infallible q) (k + (length p.outs + length p.modifies)))
    → site.after ≡ set_all n.spots.globals p.modifies news → site.callee ≡ q
    → DenotesSite e site (site_of C k (tree_at a path) p q es (state_of a n))
site_made a b d e C F k n p q path es site news w lt ab dg ef bd da eb de douts dnews df eafter eq =
    let be = extends_then b d e bd de in
    let ae = extends_then a b e ab be in
    let globals = w.within.globals in
    let terms = ap (λ (G : List Function). map (term_in G (store_of b n.spots)) es) ef ∙ ap (λ (st : Store Tree). map (term_in C.program.functions st) es) (store_later a b n.spots ab w.within) in
    record {
      callee = eq;
      guard = denotes_later b e site.guard _ be (record { within = dg.within; tree = guarded a a b n path site.guard w lt (extends_self a) dg });
      args = denote_all_later d e site.args _ de (record { within = da.within; trees = da.trees ∙ terms });
      before = record { within = subst (All (λ i. i < length e)) (sym eb) (all_later a e n.spots.globals ae globals); trees = ap (map (tree_at e)) eb ∙ trees_later a e n.spots.globals ae globals };
      outs = douts;
      after = record {
        within = subst (All (λ i. i < length e)) (sym eafter) (All-set_all (λ i. i < length e) n.spots.globals p.modifies news (all_later a e n.spots.globals ae globals) dnews.within);
        trees = ap (map (tree_at e)) eafter ∙ map-set_all (tree_at e) n.spots.globals p.modifies news ∙ (λ i. set_all (trees_later a e n.spots.globals ae globals i) p.modifies (dnews.trees i));
      };
      flag = df;
    }

-- ---- what the caller takes over

pub stored : (a b : List Tree) (n mid : Spots) (guard : ℕ) (places : List Spot) (modifies : List ℕ) (receivers : List Spot) (news outs passed : List ℕ) → guard < length a → All (λ i. i < length a) outs → Extends a b → places ≡ map Global modifies
    → store_of b mid ≡ spec.assign (tree_at a guard) (store_of a n) places (map (tree_at a) news) → passed ≡ outs
    → spec.assign (tree_at b guard) (store_of b mid) receivers (map (tree_at b) passed) ≡ spec.assign (tree_at a guard) (spec.assign (tree_at a guard) (store_of a n) (map Global modifies) (map (tree_at a) news)) receivers (map (tree_at a) outs)
stored a b n mid guard places modifies receivers news outs passed lt w ab ep first eo =
    let terms = ap (map (tree_at b)) eo ∙ trees_later a b outs ab w in
    let store = first ∙ ap (λ (l : List Spot). spec.assign (tree_at a guard) (store_of a n) l (map (tree_at a) news)) ep in
    λ i. spec.assign (ab.kept guard lt i) (store i) receivers (terms i)

-- the state with other spots
abbrev pub with_spots : BodyState → Spots → BodyState
with_spots n after = record { spots = after; flag = n.flag; gone = n.gone; assumes = n.assumes; sites = n.sites; next = n.next }

pub spots_stand : (a b : List Tree) (n : BodyState) (after : Spots) (st : Store Tree) → IsWithin a n → Extends a b → AreWithin b after → store_of b after ≡ st → Stands b (with_spots n after) (spec.with_store st (state_of a n))
spots_stand a b n after st w ab wa e =
    let k = stands_later a b n (state_of a n) ab w in
    record { within = wa; store = e; flag = k.flag; gone = k.gone; assumes = k.assumes; sites = k.sites }

pub received : (a b d e : List Tree) (n failed : BodyState) (after : Spots) (site : Site) (up : ℕ) (more : List Site) (p : CoreProc) (receivers : List Spot) (news : List ℕ) → IsWithin a n → IsSiteWithin a site → Extends a b → AreWithin b after
    → store_of b after ≡ spec.assign (tree_at a site.guard) (spec.assign (tree_at a site.guard) (store_of a n.spots) (map Global p.modifies) (map (tree_at a) news)) receivers (map (tree_at a) site.outs)
    → Extends b d → tree_at d up ≡ and_of (tree_at b site.guard) (tree_at b site.flag) → Extends d e → Stands e failed (spec.fail (tree_at d up) (state_of d (with_spots n after))) → more ≡ failed.sites ++ site ∷ []
    → Stands e (record { spots = failed.spots; flag = failed.flag; gone = failed.gone; assumes = failed.assumes; sites = more; next = failed.next }) (spec.receive (map (tree_at a) news) p receivers (site_at a site) (state_of a n))
received a b d e n failed after site up more p receivers news w ws ab wa is bd eu de stands em =
    let ad = extends_then a b d ab bd in
    let st = spec.assign (tree_at a site.guard) (spec.assign (tree_at a site.guard) (store_of a n.spots) (map Global p.modifies) (map (tree_at a) news)) receivers (map (tree_at a) site.outs) in
    let mid = stands_for d (with_spots n after) (spec.with_store st (state_of a n)) (spots_stand a d n after st w ad (spots_later b d after bd wa) (store_later b d after bd wa ∙ is)) in
    let g : tree_at d up ≡ and_of (tree_at a site.guard) (tree_at a site.flag) = eu ∙ (λ i. and_of (ab.kept site.guard ws.guard.within i) (ab.kept site.flag ws.flag.within i)) in
    let f = subst (Stands e failed) (λ i. spec.fail (g i) (mid i)) stands in
    record {
      within = f.within;
      store = f.store;
      flag = f.flag;
      gone = f.gone;
      assumes = f.assumes;
      sites = subst (λ (l : List Site). DenoteSites e l (map (site_at a) n.sites ++ site_at a site ∷ [])) (sym em) (sites_push e failed.sites (map (site_at a) n.sites) site (site_at a site) f.sites (site_later a e site (site_at a site) (extends_then a d e ad de) ws));
    }

-- a call with its record, where the record is there
pub called : (a b : List Tree) (C : Context) (k : ℕ) (n mid : BodyState) (p : CoreProc) (q path : ℕ) (receivers : List Spot) (es : List CoreExpr) (site : Site) (news passed : List ℕ) → DenotesSite b site (site_of C k (tree_at a path) p q es (state_of a n)) → DenoteAll b news (changed C.program k p)
    → passed ≡ news → Stands b mid (state_of a n)
    → spec.receive (map (tree_at b) passed) p receivers (site_at b site) (state_of b mid) ≡ spec.receive (changed C.program k p) p receivers (site_of C k (tree_at a path) p q es (state_of a n)) (state_of a n)
called a b C k n mid p q path receivers es site news passed ds dn en stands =
    let terms = ap (map (tree_at b)) en ∙ dn.trees in
    λ i. spec.receive (terms i) p receivers (site_for b site _ ds i) (stands_for b mid (state_of a n) stands i)
