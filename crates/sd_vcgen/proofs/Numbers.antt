-- What numbers stand for in a bank that grows.
use Rattle.std.proofs.Common.{◌≡◌, ℕ, ◌<◌, List, [], ◌∷◌, ◌++◌, length, get_or, refl, sym, ap, subst, ◌∙◌, arith}
use Rattle.sd_base.proofs.Lists.{get_or-map_none}
use Rattle.std.specs.Prelude.{None, All, map}
use Rattle.sd_core.specs.declared.Spot.{Spot}
use Rattle.sd_core.specs.declared.Spot.TheVariants.{Slot, Global}
use Rattle.sd_core.specs.Store.{read, write, map_store}
use Rattle.sd_term.specs.Tree.{Tree}
use Rattle.sd_term.specs.Bank.{tree_at}
use Rattle.sd_term.specs.Build.{Extends, not_of, and_of, or_of}
use Rattle.sd_term.proofs.Trees.{map_at-same}
use Rattle.sd_vcgen.specs.Body.{State, nothing, guard_of}
use Rattle.sd_vcgen.specs.Body as spec
use Rattle.sd_vcgen.specs.Numbers.{Denotes, DenoteAll, DenotesSite, DenoteSites, site_at, IsSiteWithin, numbers_of, number_at, store_of, AreWithin, Stands, state_of, IsWithin}
use Rattle.sd_vcgen.specs.declared.body.BodyState.{BodyState}
use Rattle.sd_vcgen.specs.declared.call.Site.{Site}
use Rattle.sd_vcgen.specs.declared.spots.Spots.{Spots}
use Rattle.sd_vcgen.proofs.Stores.{write_map}

pub extends_self : (bank : List Tree) → Extends bank bank
extends_self bank = record { longer = omega arith; kept = λ i h. refl }

pub extends_then : (a b c : List Tree) → Extends a b → Extends b c → Extends a c
extends_then a b c h k = record {
  longer = let p = h.longer in let q = k.longer in omega (arith, p, q);
  kept = λ i lt. let p = h.longer in let below : i < length b = omega (arith, p, lt) in k.kept i below ∙ h.kept i lt;
}

pub below_later : (a b : List Tree) (i : ℕ) → Extends a b → i < length a → i < length b
below_later a b i h lt = let p = h.longer in omega (arith, p, lt)

pub denotes_later : (a b : List Tree) (id : ℕ) (t : Tree) → Extends a b → Denotes a id t → Denotes b id t
denotes_later a b id t h d = record { within = below_later a b id h d.within; tree = h.kept id d.within ∙ d.tree }

pub all_later : (a b : List Tree) (ids : List ℕ) → Extends a b → All (λ id. id < length a) ids → All (λ id. id < length b) ids
all_later a b ids h w = λ k d lt. below_later a b (get_or ids k d) h (w k d lt)

pub trees_later : (a b : List Tree) (ids : List ℕ) → Extends a b → All (λ id. id < length a) ids → map (tree_at b) ids ≡ map (tree_at a) ids
trees_later a b ids h w = map_at-same b a (length a) h.kept ids w

pub denote_all_later : (a b : List Tree) (ids : List ℕ) (ts : List Tree) → Extends a b → DenoteAll a ids ts → DenoteAll b ids ts
denote_all_later a b ids ts h d = record { within = all_later a b ids h d.within; trees = trees_later a b ids h d.within ∙ d.trees }

-- ---- spots

pub spots_later : (a b : List Tree) (n : Spots) → Extends a b → AreWithin a n → AreWithin b n
spots_later a b n h w = record { slots = all_later a b n.slots h w.slots; globals = all_later a b n.globals h w.globals }

pub store_later : (a b : List Tree) (n : Spots) → Extends a b → AreWithin a n → store_of b n ≡ store_of a n
store_later a b n h w = λ i. record { slots = trees_later a b n.slots h w.slots i; globals = trees_later a b n.globals h w.globals i }

-- a spot that isn't there
pub number_at-none : (bank : List Tree) (n : Spots) (s : Spot) → number_at (numbers_of n) s ≡ None → read nothing (store_of bank n) s ≡ nothing
number_at-none bank n (Slot i) e = get_or-map_none (tree_at bank) n.slots i nothing e
number_at-none bank n (Global i) e = get_or-map_none (tree_at bank) n.globals i nothing e

-- a spot that takes another number
pub held_store : (a b : List Tree) (n after : Spots) (s : Spot) (id : ℕ) (t : Tree) → AreWithin a n → Extends a b → numbers_of after ≡ write (numbers_of n) s id → tree_at b id ≡ t → store_of b after ≡ write (store_of a n) s t
held_store a b n after s id t w h e is =
    ap (map_store (tree_at b)) e ∙ write_map (tree_at b) (numbers_of n) s id ∙ (λ i. write (store_later a b n h w i) s (is i))

-- ---- calls

pub site_later : (a b : List Tree) (n : Site) (s : spec.Site) → Extends a b → DenotesSite a n s → DenotesSite b n s
site_later a b n s h d = record {
  callee = d.callee;
  guard = denotes_later a b n.guard s.guard h d.guard;
  args = denote_all_later a b n.args s.args h d.args;
  before = denote_all_later a b n.before s.before h d.before;
  outs = denote_all_later a b n.outs s.outs h d.outs;
  after = denote_all_later a b n.after s.after h d.after;
  flag = denotes_later a b n.flag s.flag h d.flag;
}

pub sites_later : (a b : List Tree) (ns : List Site) (ss : List spec.Site) → Extends a b → DenoteSites a ns ss → DenoteSites b ns ss
sites_later a b [] [] h d = tt
sites_later a b [] (s ∷ ss) h d = absurd d
sites_later a b (n ∷ ns) [] h d = absurd d
sites_later a b (n ∷ ns) (s ∷ ss) h d = (site_later a b n s h d.0, sites_later a b ns ss h d.1)

-- what a record of numbers stands for
pub site_for : (bank : List Tree) (n : Site) (s : spec.Site) → DenotesSite bank n s → site_at bank n ≡ s
site_for bank n s d = λ i. record {
  callee = d.callee i;
  guard = d.guard.tree i;
  args = d.args.trees i;
  before = d.before.trees i;
  outs = d.outs.trees i;
  after = d.after.trees i;
  flag = d.flag.tree i;
}

pub sites_for : (bank : List Tree) (ns : List Site) (ss : List spec.Site) → DenoteSites bank ns ss → map (site_at bank) ns ≡ ss
sites_for bank [] [] d = refl
sites_for bank [] (s ∷ ss) d = absurd d
sites_for bank (n ∷ ns) [] d = absurd d
sites_for bank (n ∷ ns) (s ∷ ss) d = λ i. site_for bank n s d.0 i ∷ sites_for bank ns ss d.1 i

pub is_site_within : (bank : List Tree) (n : Site) (s : spec.Site) → DenotesSite bank n s → IsSiteWithin bank n
is_site_within bank n s d = subst (DenotesSite bank n) (sym (site_for bank n s d)) d

-- one more record
pub sites_push : (bank : List Tree) (ns : List Site) (ss : List spec.Site) (n : Site) (s : spec.Site) → DenoteSites bank ns ss → DenotesSite bank n s → DenoteSites bank (ns ++ n ∷ []) (ss ++ s ∷ [])
sites_push bank [] [] n s d e = (e, tt)
sites_push bank [] (x ∷ ss) n s d e = absurd d
sites_push bank (m ∷ ns) [] n s d e = absurd d
sites_push bank (m ∷ ns) (x ∷ ss) n s d e = (d.0, sites_push bank ns ss n s d.1 e)

-- ---- states

pub stands_later : (a b : List Tree) (n : BodyState) (s : State) → Extends a b → Stands a n s → Stands b n s
stands_later a b n s h k = record {
  within = spots_later a b n.spots h k.within;
  store = store_later a b n.spots h k.within ∙ k.store;
  flag = denotes_later a b n.flag s.flag h k.flag;
  gone = denotes_later a b n.gone s.gone h k.gone;
  assumes = denote_all_later a b n.assumes s.assumes h k.assumes;
  sites = sites_later a b n.sites s.sites h k.sites;
}

-- what a state of numbers stands for
pub stands_for : (bank : List Tree) (n : BodyState) (s : State) → Stands bank n s → state_of bank n ≡ s
stands_for bank n s k = λ i. record { store = k.store i; flag = k.flag.tree i; gone = k.gone.tree i; assumes = k.assumes.trees i; sites = sites_for bank n.sites s.sites k.sites i }

pub is_within : (bank : List Tree) (n : BodyState) (s : State) → Stands bank n s → IsWithin bank n
is_within bank n s k = subst (Stands bank n) (sym (stands_for bank n s k)) k

pub within_stays : (a b : List Tree) (n : BodyState) → Extends a b → IsWithin a n → IsWithin b n
within_stays a b n h k = is_within b n (state_of a n) (stands_later a b n (state_of a n) h k)

pub state_later : (a b : List Tree) (n : BodyState) → Extends a b → IsWithin a n → state_of b n ≡ state_of a n
state_later a b n h w = stands_for b n (state_of a n) (stands_later a b n (state_of a n) h w)

pub guarded : (a b c : List Tree) (n : BodyState) (path guard : ℕ) → IsWithin a n → path < length a → Extends a b → Denotes c guard (and_of (tree_at b path) (not_of (tree_at b n.gone))) → tree_at c guard ≡ guard_of (tree_at a path) (state_of a n)
guarded a b c n path guard w lt h d =
    d.tree ∙ (λ i. and_of (h.kept path lt i) (not_of (h.kept n.gone w.gone.within i)))

pub leave_stands : (old new : List Tree) (n : BodyState) (g id : ℕ) → IsWithin old n → Extends old new → id < length new → tree_at new id ≡ or_of (tree_at old n.gone) (tree_at old g)
    → Stands new (record { spots = n.spots; flag = n.flag; gone = id; assumes = n.assumes; sites = n.sites; next = n.next }) (spec.leave (tree_at old g) (state_of old n))
leave_stands old new n g id w h lt e =
    let k = stands_later old new n (state_of old n) h w in
    record { within = k.within; store = k.store; flag = k.flag; gone = record { within = lt; tree = e }; assumes = k.assumes; sites = k.sites }

pub fail_stands : (old mid new : List Tree) (n : BodyState) (g flag gone : ℕ) → IsWithin old n → g < length old → Extends old mid → flag < length mid → tree_at mid flag ≡ or_of (tree_at old n.flag) (tree_at old g)
    → Extends mid new → gone < length new → tree_at new gone ≡ or_of (tree_at mid n.gone) (tree_at mid g)
    → Stands new (record { spots = n.spots; flag = flag; gone = gone; assumes = n.assumes; sites = n.sites; next = n.next }) (spec.fail (tree_at old g) (state_of old n))
fail_stands old mid new n g flag gone w gl h lt e h' lt' e' =
    let k = stands_later old new n (state_of old n) (extends_then old mid new h h') w in
    record {
      within = k.within;
      store = k.store;
      flag = denotes_later mid new flag _ h' (record { within = lt; tree = e });
      gone = record { within = lt'; tree = e' ∙ (λ i. or_of (h.kept n.gone w.gone.within i) (h.kept g gl i)) };
      assumes = k.assumes;
      sites = k.sites;
    }
