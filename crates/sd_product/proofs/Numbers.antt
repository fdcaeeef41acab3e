-- Lists of numbers over a bank that grows.
use Rattle.std.proofs.Common.{◌≡◌, ℕ, zero, suc, ◌+◌, ◌-◌, ◌<◌, ◌≤◌, List, [], ◌∷◌, ◌++◌, length, drop, get_or, sym, ap, subst, ◌∙◌, arith}
use Rattle.sd_base.proofs.Lists.{get_or-map_none}
use Rattle.std.specs.Prelude.{All, map, Some, None, slice_get}
use Rattle.std.proofs.lemmas.List.{map-append, append_assoc, append-nil}
use Rattle.std.proofs.lemmas.List.Elements.{All-push}
use Rattle.sd_match.proofs.ListLemmas.{get_or-map}
use Rattle.sd_core.specs.declared.Spot.{Spot}
use Rattle.sd_core.specs.declared.Spot.TheVariants.{Slot, Global}
use Rattle.sd_core.specs.Store.{read}
use Rattle.sd_term.specs.Tree.{Tree}
use Rattle.sd_term.specs.Bank.{tree_at}
use Rattle.sd_term.specs.Build.{Extends, not_of, or_of}
use Rattle.sd_vcgen.specs.Body.{nothing}
use Rattle.sd_vcgen.specs.Numbers.{Denotes, number_at}
use Rattle.sd_vcgen.proofs.Numbers.{extends_self, extends_then, all_later, trees_later}
use Rattle.sd_vcgen.proofs.Loops.{drop_split}
use Rattle.sd_product.specs.Query.{under}
use Rattle.sd_product.specs.declared.relations.StateTerms.{StateTerms}
use Rattle.sd_product.specs.Numbers.{Adds, AreWithin, numbers_of, store_at}

-- ---- lists

found : {A : Type 0} (P : A → Type 0) (xs : List A) (i : ℕ) (x : A) → slice_get xs i ≡ Some x → All P xs → P x
found P [] i x e h = cc
found {A} P (y ∷ xs) zero x e h = let same : y ≡ x = cc in subst P same (h 0 y (omega arith))
found P (y ∷ xs) (suc i) x e h = found P xs i x e (λ k d lt. h (suc k) d (omega (arith, lt)))

pub all-append : {A : Type 0} (P : A → Type 0) (xs ys : List A) → All P xs → All P ys → All P (xs ++ ys)
all-append P [] ys h k i d lt = k i d lt
all-append P (x ∷ xs) ys h k zero d lt = h 0 d (omega arith)
all-append P (x ∷ xs) ys h k (suc i) d lt = all-append P xs ys (λ j e l. h (suc j) e (omega (arith, l))) k i d (omega (arith, lt))

-- ---- states

pub number_at-some : (bank : List Tree) (n : StateTerms) (s : Spot) (id : ℕ) → AreWithin bank n → number_at (numbers_of n) s ≡ Some id → Denotes bank id (read nothing (store_at bank n) s)
number_at-some bank n (Slot i) id w e = record {
  within = found (λ k. k < length bank) (n.ins.now ++ n.outs.now) i id e (all-append (λ k. k < length bank) n.ins.now n.outs.now w.ins w.outs);
  tree = sym (get_or-map (tree_at bank) (n.ins.now ++ n.outs.now) i id nothing e);
}
number_at-some bank n (Global i) id w e = record {
  within = found (λ k. k < length bank) n.globals.now i id e w.globals;
  tree = sym (get_or-map (tree_at bank) n.globals.now i id nothing e);
}

pub number_at-none : (bank : List Tree) (n : StateTerms) (s : Spot) → number_at (numbers_of n) s ≡ None → read nothing (store_at bank n) s ≡ nothing
number_at-none bank n (Slot i) e = get_or-map_none (tree_at bank) (n.ins.now ++ n.outs.now) i nothing e
number_at-none bank n (Global i) e = get_or-map_none (tree_at bank) n.globals.now i nothing e

pub within_later : (a b : List Tree) (n : StateTerms) → Extends a b → AreWithin a n → AreWithin b n
within_later a b n h w = record { ins = all_later a b n.ins.now h w.ins; outs = all_later a b n.outs.now h w.outs; globals = all_later a b n.globals.now h w.globals }

pub store_later : (a b : List Tree) (n : StateTerms) → Extends a b → AreWithin a n → store_at b n ≡ store_at a n
store_later a b n h w =
    let slots = trees_later a b (n.ins.now ++ n.outs.now) h (all-append (λ k. k < length a) n.ins.now n.outs.now w.ins w.outs) in
    λ i. record { slots = slots i; globals = trees_later a b n.globals.now h w.globals i }

-- ---- what is added

-- numbers xs have become ys, and what is left makes up the whole
pub record Adding (a : List Tree) (xs : List ℕ) (b : List Tree) (ys : List ℕ) (left whole : List Tree) : Type 0 where
  pub within : All (λ id. id < length b) ys
  pub trees : map (tree_at b) ys ++ left ≡ map (tree_at a) xs ++ whole
  pub kept : Extends a b

pub adding_begins : (a : List Tree) (xs : List ℕ) (left whole : List Tree) → All (λ id. id < length a) xs → left ≡ whole → Adding a xs a xs left whole
adding_begins a xs left whole w e = record { within = w; trees = ap (λ (l : List Tree). map (tree_at a) xs ++ l) e; kept = extends_self a }

pub adds_one : (a : List Tree) (xs : List ℕ) (b : List Tree) (ys : List ℕ) (id : ℕ) (t : Tree) → All (λ id. id < length a) xs → Extends a b → Denotes b id t → ys ≡ xs ++ id ∷ [] → Adds a xs b ys (t ∷ [])
adds_one a xs b ys id t w h d e = record {
  within = subst (All (λ i. i < length b)) (sym e) (All-push (λ i. i < length b) xs id (all_later a b xs h w) d.within);
  trees = ap (map (tree_at b)) e ∙ map-append (tree_at b) xs (id ∷ []) ∙ (λ i. trees_later a b xs h w i ++ d.tree i ∷ []);
  kept = h;
}

pub adding_more : (a : List Tree) (xs : List ℕ) (b : List Tree) (ys : List ℕ) (c : List Tree) (zs : List ℕ) (ts left rest whole : List Tree) → Adding a xs b ys left whole → Adds b ys c zs ts → left ≡ ts ++ rest → Adding a xs c zs rest whole
adding_more a xs b ys c zs ts left rest whole h k e = record {
  within = k.within;
  trees = ap (λ (l : List Tree). l ++ rest) k.trees ∙ append_assoc (map (tree_at b) ys) ts rest ∙ ap (λ (l : List Tree). map (tree_at b) ys ++ l) (sym e) ∙ h.trees;
  kept = extends_then a b c h.kept k.kept;
}

pub adding_one : (a : List Tree) (xs : List ℕ) (b : List Tree) (ys : List ℕ) (c : List Tree) (zs : List ℕ) (id : ℕ) (t : Tree) (left rest whole : List Tree) → Adding a xs b ys left whole → Extends b c → Denotes c id t → zs ≡ ys ++ id ∷ [] → left ≡ t ∷ rest → Adding a xs c zs rest whole
adding_one a xs b ys c zs id t left rest whole h k d e split =
    adding_more a xs b ys c zs (t ∷ []) left rest whole h (adds_one b ys c zs id t h.within k d e) split

pub adding_ends : (a : List Tree) (xs : List ℕ) (b : List Tree) (ys : List ℕ) (left whole : List Tree) → Adding a xs b ys left whole → left ≡ [] → Adds a xs b ys whole
adding_ends a xs b ys left whole h e = record {
  within = h.within;
  trees = sym (append-nil (map (tree_at b) ys)) ∙ ap (λ (l : List Tree). map (tree_at b) ys ++ l) (sym e) ∙ h.trees;
  kept = h.kept;
}

pub adds_none : (a : List Tree) (xs : List ℕ) → All (λ id. id < length a) xs → Adds a xs a xs []
adds_none a xs w = record { within = w; trees = sym (append-nil (map (tree_at a) xs)); kept = extends_self a }

pub adds_then : (a : List Tree) (xs : List ℕ) (b : List Tree) (ys : List ℕ) (c : List Tree) (zs : List ℕ) (ts us : List Tree) → Adds a xs b ys ts → Adds b ys c zs us → Adds a xs c zs (ts ++ us)
adds_then a xs b ys c zs ts us h k = record {
  within = k.within;
  trees = k.trees ∙ ap (λ (l : List Tree). l ++ us) h.trees ∙ append_assoc (map (tree_at a) xs) ts us;
  kept = extends_then a b c h.kept k.kept;
}

-- ---- conditions

pub under_more : {A : Type 0} (f : A → Tree) (xs : List A) (n : ℕ) (x d : A) (t : Tree) → 0 < n → n ≤ length xs → x ≡ get_or xs (n - 1) d → under (map f (drop (n - 1) xs)) t ≡ or_of (not_of (f x)) (under (map f (drop n xs)) t)
under_more {A} f xs n x d t positive within e =
    let next : (n - 1) + 1 ≡ n = omega (arith, positive) in
    let here : n - 1 < length xs = omega (arith, positive, within) in
    ap (λ (l : List A). under (map f l) t) (drop_split xs (n - 1) x d here e) ∙ ap (λ (k : ℕ). or_of (not_of (f x)) (under (map f (drop k xs)) t)) next

pub item_within : (bank : List Tree) (ids : List ℕ) (i x : ℕ) → All (λ id. id < length bank) ids → i < length ids → x ≡ get_or ids i x → x < length bank
item_within bank ids i x all lt e = subst (λ (k : ℕ). k < length bank) (sym e) (all i x lt)

pub rest_within : (bank : List Tree) (ids : List ℕ) (i : ℕ) → All (λ id. id < length bank) ids → All (λ id. id < length bank) (drop i ids)
rest_within bank [] zero h = h
rest_within bank [] (suc i) h = h
rest_within bank (x ∷ ids) zero h = h
rest_within bank (x ∷ ids) (suc i) h = rest_within bank ids i (λ k d lt. h (suc k) d (omega (arith, lt)))
