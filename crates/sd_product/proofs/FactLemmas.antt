-- How the facts of a query are put together.
use Rattle.std.proofs.Common.{◌≡◌, ℕ, ◌<◌, List, [], ◌∷◌, ◌++◌, length, sym, ap, subst, ◌∙◌, arith}
use Rattle.std.specs.Prelude.{All, map}
use Rattle.std.proofs.lemmas.List.{map-append, append_assoc}
use Rattle.sd_base.specs.declared.Var.{Var}
use Rattle.sd_term.specs.Tree.{Tree}
use Rattle.sd_term.specs.Bank.{tree_at}
use Rattle.sd_term.specs.Build.{Extends, not_of}
use Rattle.sd_term.specs.Numbering.{numbered}
use Rattle.sd_vcgen.specs.Numbers.{Denotes, DenoteAll}
use Rattle.sd_vcgen.proofs.Numbers.{extends_then, all_later, trees_later}
use Rattle.sd_product.specs.Query.{any_constant, apart}
use Rattle.sd_product.specs.Unique.{present, differ}
use Rattle.sd_product.specs.Numbers.{Adds}
use Rattle.sd_product.proofs.Numbers.{Adding, adding_ends, adds_one, adds_then, all-append}
use Rattle.sd_product.proofs.Constants.{any-numbered, differ_is}

-- some terms at once
pub adds_all : (a : List Tree) (xs : List ℕ) (b : List Tree) (more ys : List ℕ) (ts : List Tree) → All (λ id. id < length a) xs → Extends a b → DenoteAll b more ts → ys ≡ xs ++ more → Adds a xs b ys ts
adds_all a xs b more ys ts w h d e = record {
  within = subst (All (λ i. i < length b)) (sym e) (all-append (λ i. i < length b) xs more (all_later a b xs h w) d.within);
  trees = ap (map (tree_at b)) e ∙ map-append (tree_at b) xs more ∙ (λ i. trees_later a b xs h w i ++ d.trees i);
  kept = h;
}

-- the bank has grown before
pub adds_later : (a b : List Tree) (xs : List ℕ) (d : List Tree) (ys : List ℕ) (ts : List Tree) → Extends a b → All (λ id. id < length a) xs → Adds b xs d ys ts → Adds a xs d ys ts
adds_later a b xs d ys ts h w k = record {
  within = k.within;
  trees = k.trees ∙ ap (λ (l : List Tree). l ++ ts) (trees_later a b xs h w);
  kept = extends_then a b d h k.kept;
}

-- nothing but what is added
pub ends_alone : (a b : List Tree) (ys : List ℕ) (left whole : List Tree) → Adding a [] b ys left whole → left ≡ [] → DenoteAll b ys whole
ends_alone a b ys left whole h e = record { within = h.within; trees = (adding_ends a [] b ys left whole h e).trees }

pub all_none : (P : ℕ → Type 0) → All P []
all_none P k d lt = absurd (omega (arith, lt))

-- premises, one list after another
pub premises_made : (a : List Tree) (f : List ℕ) (b1 : List Tree) (f1 : List ℕ) (b2 : List Tree) (f2 : List ℕ) (b3 : List Tree) (f3 f4 f5 : List ℕ) (b4 : List Tree) (f6 : List ℕ) (t1 t2 t3 t4 t5 t6 : List Tree)
    → Adds a f b1 f1 t1 → Adds b1 f1 b2 f2 t2 → Adds b2 f2 b3 f3 t3 → Adds b3 f3 b3 f4 t4 → Adds b3 f4 b3 f5 t5 → Adds b3 f5 b4 f6 t6 → Adds a f b4 f6 (t1 ++ (t2 ++ (t3 ++ (t4 ++ (t5 ++ t6)))))
premises_made a f b1 f1 b2 f2 b3 f3 f4 f5 b4 f6 t1 t2 t3 t4 t5 t6 h1 h2 h3 h4 h5 h6 =
    adds_then a f b1 f1 b4 f6 t1 _ h1 (adds_then b1 f1 b2 f2 b4 f6 t2 _ h2 (adds_then b2 f2 b3 f3 b4 f6 t3 _ h3 (adds_then b3 f3 b3 f4 b4 f6 t4 _ h4 (adds_then b3 f4 b3 f5 b4 f6 t5 t6 h5 h6))))

-- premises, that unique constants differ, and the denial of the claim
pub facts_made : (a b1 b2 b3 b4 : List Tree) (f0 f1 f2 f3 : List ℕ) (claim denial : ℕ) (premises : List Tree) (said : Tree) (olds news us vs : List Var)
    → f0 ≡ [] → Adds a f0 b1 f1 premises → Extends b1 b2 → tree_at b2 claim ≡ said → claim < length b2
    → Adds b2 f1 b3 f2 (apart (map (tree_at b2) f1 ++ tree_at b2 claim ∷ []) us ++ apart (map (tree_at b2) f1 ++ tree_at b2 claim ∷ []) vs) → us ≡ olds → vs ≡ news
    → tree_at b4 denial ≡ not_of (tree_at b3 claim) → denial < length b4 → Extends b3 b4 → f3 ≡ f2 ++ denial ∷ []
    → DenoteAll b4 f3 (premises ++ (apart (premises ++ said ∷ []) olds ++ (apart (premises ++ said ∷ []) news ++ not_of said ∷ [])))
facts_made a b1 b2 b3 b4 f0 f1 f2 f3 claim denial premises said olds news us vs e0 h1 k12 ec cl h2 eu ev ed dl k34 e3 =
    let first : map (tree_at b1) f1 ≡ premises = h1.trees ∙ ap (λ (l : List ℕ). map (tree_at a) l ++ premises) e0 in
    let here : map (tree_at b2) f1 ≡ premises = trees_later b1 b2 f1 k12 h1.within ∙ first in
    let one = apart (premises ++ said ∷ []) olds in
    let two = apart (premises ++ said ∷ []) news in
    let differ : apart (map (tree_at b2) f1 ++ tree_at b2 claim ∷ []) us ++ apart (map (tree_at b2) f1 ++ tree_at b2 claim ∷ []) vs ≡ one ++ two =
    λ i. apart (here i ++ ec i ∷ []) (eu i) ++ apart (here i ++ ec i ∷ []) (ev i) in
    let grown : map (tree_at b3) f2 ≡ premises ++ (one ++ two) = h2.trees ∙ (λ i. here i ++ differ i) in
    let denied : Denotes b4 denial (not_of said) = record { within = dl; tree = ed ∙ ap not_of (h2.kept.kept claim cl ∙ ec) } in
    let last = adds_one b3 f2 b4 f3 denial (not_of said) h2.within k34 denied e3 in
    record {
      within = last.within;
      trees = last.trees ∙ ap (λ (l : List Tree). l ++ not_of said ∷ []) grown ∙ append_assoc premises (one ++ two) (not_of said ∷ []) ∙ ap (λ (l : List Tree). premises ++ l) (append_assoc one two (not_of said ∷ []));
    }

-- that unique constants of both sides differ, where their terms have been numbered
pub uniques_made : (a : List Tree) (f : List ℕ) (claim : ℕ) (whole : List ℕ) (terms : List Tree) (b : List Tree) (f1 : List ℕ) (d : List Tree) (f2 : List ℕ) (olds news : List Var)
    → whole ≡ f ++ claim ∷ [] → terms ≡ numbered (map (tree_at a) whole) → Adds a f b f1 (differ (present terms olds)) → Adds b f1 d f2 (differ (present terms news))
    → Adds a f d f2 (apart (map (tree_at a) f ++ tree_at a claim ∷ []) olds ++ apart (map (tree_at a) f ++ tree_at a claim ∷ []) news)
uniques_made a f claim whole terms b f1 d f2 olds news ew en h1 h2 =
    let facts = map (tree_at a) f ++ tree_at a claim ∷ [] in
    let all : map (tree_at a) whole ≡ facts = ap (map (tree_at a)) ew ∙ map-append (tree_at a) f (claim ∷ []) in
    let is : terms ≡ numbered facts = en ∙ ap numbered all in
    let same = λ (c : Var). ap (any_constant c) is ∙ any-numbered c facts in
    adds_then a f b f1 d f2 (apart facts olds) (apart facts news) (subst (Adds a f b f1) (differ_is terms facts same olds) h1) (subst (Adds b f1 d f2) (differ_is terms facts same news) h2)
