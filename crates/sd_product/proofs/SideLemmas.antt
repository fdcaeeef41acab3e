-- Bodies by numbers, over a bank that grows.
use Rattle.std.proofs.Common.{◌≡◌, ℕ, suc, ◌+◌, ◌<◌, List, [], ◌∷◌, ◌++◌, length, drop, get_or, refl, sym, ap, subst, ◌∙◌, arith}
use Rattle.std.specs.Prelude.{All, map, Bool}
use Rattle.std.proofs.lemmas.List.{map-append, append-nil}
use Rattle.sd_base.proofs.Lists.{All-back}
use Rattle.sd_base.specs.declared.Sort.{Sort}
use Rattle.sd_base.specs.declared.Var.{Var}
use Rattle.sd_core.specs.declared.CoreProc.{CoreProc}
use Rattle.sd_core.specs.Formed.{sorts_of}
use Rattle.sd_term.specs.declared.node.Head.TheVariants.{Sym}
use Rattle.sd_term.specs.Tree.{Tree, leaf}
use Rattle.sd_term.specs.Bank.{tree_at}
use Rattle.sd_term.specs.Build.{Extends}
use Rattle.sd_vcgen.specs.Body.{Context, symbols, body_of}
use Rattle.sd_vcgen.specs.Numbers.{DenoteAll, AreTermsOf, site_at}
use Rattle.sd_vcgen.proofs.Numbers.{denotes_later, denote_all_later, sites_later, sites_for}
use Rattle.sd_vcgen.proofs.Loops.{drop_split}
use Rattle.sd_product.specs.Query as query
use Rattle.sd_product.specs.Query.{Claimed, Work, side_from, facts_of}
use Rattle.sd_product.specs.declared.relations.StateTerms.{StateTerms}
use Rattle.sd_product.specs.declared.relations.EndTerms.{EndTerms}
use Rattle.sd_product.specs.declared.sides.Side.{Side}
use Rattle.sd_product.specs.Numbers.{AreWithin, IsEndWithin, store_at}
use Rattle.sd_product.specs.Sides.{DenotesSide, side_at, IsSideWithin}
use Rattle.sd_product.proofs.Numbers.{all-append}

-- ---- symbols

pub symbols_begin : (k : ℕ) (ss : List Sort) → symbols (k + 0) ss ≡ symbols k ss
symbols_begin k ss = let e : k + 0 ≡ k = omega arith in ap (λ (n : ℕ). symbols n ss) e

pub symbols_split : (k i : ℕ) (vars : List Var) (x : Var) (s : Sort) → i < length vars → x ≡ get_or vars i x → s ≡ x.sort → symbols (k + i) (sorts_of (drop i vars)) ≡ leaf (Sym (k + i) s) ∷ symbols (k + (i + 1)) (sorts_of (drop (i + 1) vars))
symbols_split k i vars x s lt e is =
    let more : suc (k + i) ≡ k + (i + 1) = omega arith in
    ap (λ (l : List Var). symbols (k + i) (sorts_of l)) (drop_split vars i x x lt e) ∙ (λ j. leaf (Sym (k + i) (sym is j)) ∷ symbols (more j) (sorts_of (drop (i + 1) vars)))

-- ---- sides

denote_append : (bank : List Tree) (xs ys : List ℕ) (ts us : List Tree) → DenoteAll bank xs ts → DenoteAll bank ys us → DenoteAll bank (xs ++ ys) (ts ++ us)
denote_append bank xs ys ts us d e = record {
  within = all-append (λ i. i < length bank) xs ys d.within e.within;
  trees = map-append (tree_at bank) xs ys ∙ (λ i. d.trees i ++ e.trees i);
}

pub side_made : (b1 b2 b3 : List Tree) (C : Context) (p : CoreProc) (first calls after : ℕ) (n : Side) (vs ws : List Var) (is gs : List ℕ) → vs ≡ p.ins → ws ≡ C.program.globals → after ≡ first + length p.ins → is ≡ n.ins → gs ≡ n.globals
    → DenoteAll b1 n.ins (symbols first (sorts_of vs)) → Extends b1 b2 → DenoteAll b2 n.globals (symbols after (sorts_of ws)) → Extends b2 b3
    → AreTermsOf b3 n.body p (body_of C p calls (map (tree_at b2) is) (map (tree_at b2) gs)) → DenotesSide b3 n (side_from C p first calls)
side_made b1 b2 b3 C p first calls after n vs ws is gs ev ew ea ei eg di k12 dg k23 dt =
    let ins : DenoteAll b2 n.ins (symbols first (sorts_of p.ins)) = subst (λ (l : List Var). DenoteAll b2 n.ins (symbols first (sorts_of l))) ev (denote_all_later b1 b2 n.ins _ k12 di) in
    let globals : DenoteAll b2 n.globals (symbols (first + length p.ins) (sorts_of C.program.globals)) = subst (DenoteAll b2 n.globals) (λ i. symbols (ea i) (sorts_of (ew i))) dg in
    let all : map (tree_at b2) is ≡ symbols first (sorts_of p.ins) = ap (map (tree_at b2)) ei ∙ ins.trees in
    let rest : map (tree_at b2) gs ≡ symbols (first + length p.ins) (sorts_of C.program.globals) = ap (map (tree_at b2)) eg ∙ globals.trees in
    let terms = subst (AreTermsOf b3 n.body p) (λ i. body_of C p calls (all i) (rest i)) dt in
    let ins3 = denote_all_later b2 b3 n.ins _ k23 ins in
    record {
      ins = ins3;
      globals = denote_all_later b2 b3 n.globals _ k23 globals;
      slots = denote_append b3 n.ins n.body.outs _ _ ins3 terms.outs;
      after = terms.globals;
      flag = terms.flag;
      assumes = terms.assumes;
      sites = terms.sites;
    }

pub side_later : (a b : List Tree) (n : Side) (s : query.Side) → Extends a b → DenotesSide a n s → DenotesSide b n s
side_later a b n s h d = record {
  ins = denote_all_later a b n.ins _ h d.ins;
  globals = denote_all_later a b n.globals _ h d.globals;
  slots = denote_all_later a b (n.ins ++ n.body.outs) _ h d.slots;
  after = denote_all_later a b n.body.globals _ h d.after;
  flag = denotes_later a b n.body.flag _ h d.flag;
  assumes = denote_all_later a b n.body.assumes _ h d.assumes;
  sites = sites_later a b n.body.sites _ h d.sites;
}

-- the same side, but for what queries don't speak of
abbrev shown : List Tree → Side → query.Side → query.Side
shown bank n s = record {
  inputs = record { slots = map (tree_at bank) n.ins; globals = map (tree_at bank) n.globals };
  body = record { store = s.body.store; flag = tree_at bank n.body.flag; gone = s.body.gone; assumes = map (tree_at bank) n.body.assumes; sites = map (site_at bank) n.body.sites };
  ends = record { slots = map (tree_at bank) (n.ins ++ n.body.outs); globals = map (tree_at bank) n.body.globals };
}

shown_is : (bank : List Tree) (n : Side) (s : query.Side) → DenotesSide bank n s → shown bank n s ≡ s
shown_is bank n s d = λ i. record {
  inputs = record { slots = d.ins.trees i; globals = d.globals.trees i };
  body = record { store = s.body.store; flag = d.flag.tree i; gone = s.body.gone; assumes = d.assumes.trees i; sites = sites_for bank n.body.sites s.body.sites d.sites i };
  ends = record { slots = d.slots.trees i; globals = d.after.trees i };
}

pub side_for : (a b : List Tree) (n : Side) → DenotesSide b n (side_at a n) → side_at b n ≡ side_at a n
side_for a b n d = shown_is b n (side_at a n) d

pub side_same : (a b : List Tree) (n : Side) → Extends a b → IsSideWithin a n → side_at b n ≡ side_at a n
side_same a b n h w = side_for a b n (side_later a b n (side_at a n) h w)

pub side_stays : (a b : List Tree) (n : Side) → Extends a b → IsSideWithin a n → IsSideWithin b n
side_stays a b n h w = subst (DenotesSide b n) (sym (side_same a b n h w)) (side_later a b n (side_at a n) h w)

pub side_within : (bank : List Tree) (n : Side) (s : query.Side) → DenotesSide bank n s → IsSideWithin bank n
side_within bank n s d = record {
  ins = record { within = d.ins.within; trees = refl };
  globals = record { within = d.globals.within; trees = refl };
  slots = record { within = d.slots.within; trees = refl };
  after = record { within = d.after.within; trees = refl };
  flag = record { within = d.flag.within; tree = refl };
  assumes = record { within = d.assumes.within; trees = refl };
  sites = let whole = subst (DenotesSide bank n) (sym (shown_is bank n s d)) d in whole.sites;
}

-- the facts over two sides are those over what their numbers stand for
pub facts_same : (w : Work) (table : List Bool) (x : Claimed) (bank : List Tree) (m n : Side) (s t : query.Side) → DenotesSide bank m s → DenotesSide bank n t → facts_of w table x (side_at bank m) (side_at bank n) ≡ facts_of w table x s t
facts_same w table x bank m n s t d e = λ i. facts_of w table x (shown_is bank m s d i) (shown_is bank n t e i)

-- ---- what they begin and end with

pub side_inputs_are : (bank : List Tree) (k : StateTerms) (n : Side) → k.ins.now ≡ n.ins → k.outs.now ≡ [] → k.globals.now ≡ n.globals → store_at bank k ≡ (side_at bank n).inputs
side_inputs_are bank k n hi ho hg =
    let slots = (λ i. map (tree_at bank) (hi i ++ ho i)) ∙ ap (map (tree_at bank)) (append-nil n.ins) in
    λ i. record { slots = slots i; globals = map (tree_at bank) (hg i) }

pub side_ends_are : (bank : List Tree) (k : StateTerms) (n : Side) → k.ins.now ≡ n.ins → k.outs.now ≡ n.body.outs → k.globals.now ≡ n.body.globals → store_at bank k ≡ (side_at bank n).ends
side_ends_are bank k n hi ho hg = λ i. record { slots = map (tree_at bank) (hi i ++ ho i); globals = map (tree_at bank) (hg i) }

pub inputs_within : (bank : List Tree) (k : StateTerms) (n : Side) → k.ins.now ≡ n.ins → k.outs.now ≡ [] → k.globals.now ≡ n.globals → IsSideWithin bank n → AreWithin bank k
inputs_within bank k n hi ho hg w = record {
  ins = subst (All (λ i. i < length bank)) (sym hi) w.ins.within;
  outs = subst (All (λ i. i < length bank)) (sym ho) (λ i d lt. absurd (omega (arith, lt)));
  globals = subst (All (λ i. i < length bank)) (sym hg) w.globals.within;
}

pub ends_within : (bank : List Tree) (k : EndTerms) (n : Side) → k.state.ins.now ≡ n.ins → k.state.outs.now ≡ n.body.outs → k.state.globals.now ≡ n.body.globals → k.flag ≡ n.body.flag → IsSideWithin bank n → IsEndWithin bank k
ends_within bank k n hi ho hg hf w = record {
  state = record {
    ins = subst (All (λ i. i < length bank)) (sym hi) w.ins.within;
    outs = subst (All (λ i. i < length bank)) (sym ho) (All-back (λ i. i < length bank) n.ins n.body.outs w.slots.within);
    globals = subst (All (λ i. i < length bank)) (sym hg) w.after.within;
  };
  flag = subst (λ (i : ℕ). i < length bank) (sym hf) w.flag.within;
}
