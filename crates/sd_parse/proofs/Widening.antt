-- Two laws of a reader that hold of its parts: its answer depends on no token after the next one, and more height changes only the
-- answer that a token is too deep.
use Rattle.std.proofs.Common.{◌≡◌, ℕ, zero, suc, ◌<◌, true, false, cond, [], ◌∷◌, ◌++◌, length, length-append, refl, ap, sym, ◌∙◌, arith}
use Rattle.std.specs.Prelude.{Bool, Option}
use Rattle.sd_base.specs.declared.Place.{Place}
use Rattle.sd_base.specs.Value.{Text}
use Rattle.sd_lex.specs.declared.Token.{Token}
use Rattle.sd_parse.specs.declared.class.TokenClass.{TokenClass}
use Rattle.sd_parse.specs.Grammar.{Tokens}
use Rattle.sd_parse.specs.Reading.{Fault, Syntax, Deep, Step, Got, Bad, Reader, and_then, bad, ahead, class_of, skip, want, name, number, all, deeper}
use Rattle.sd_parse.proofs.Local.{Local, Takes, local_pure, local_bad, OneToken, one_skip, one_name, one_number, one_want, local_bind, takes_bind, local_look, local_if, local_deeper, local_all}
use Rattle.sd_parse.proofs.Lifts.{Lifts, same, deep, lift_bind, lift_deeper, lift_all}

-- a reader, and one of greater height
pub record Widens {A : Type 0} (p q : Reader A) : Type 0 where
  pub local : Local p
  pub lifts : (ts : Tokens) → Lifts (p ts) (q ts)

-- the same of a reader whose value takes a token at least
pub record Item {A : Type 0} (p q : Reader A) : Type 0 where
  pub widens : Widens p q
  pub takes : Takes p

-- ---- readers without height

pub still : {A : Type 0} {p : Reader A} → Local p → Widens p p
still l = record { local = l; lifts = λ ts. same refl }

pub got : {A : Type 0} (x : A) → Widens (λ ts. Got x ts) (λ ts. Got x ts)
got x = still (local_pure x)

pub fault : {A : Type 0} (k : Fault) → Widens (bad {A = A} k) (bad k)
fault k = still (local_bad k)

token : {A : Type 0} {p : Reader A} → OneToken p → Item p p
token o = record { widens = still o.local; takes = o.takes }

pub skip_item : Item skip skip
skip_item = token one_skip

pub name_item : Item name name
name_item = token one_name

pub number_item : Item number number
number_item = token one_number

pub want_item : (x : TokenClass) → Item (want x) (want x)
want_item x = token (one_want x)

-- ---- one reader after another

pub sequence : {A B : Type 0} {p q : Reader A} {f h : A → Reader B} → Widens p q → ((x : A) → Widens (f x) (h x)) → Widens (λ ts. and_then (p ts) f) (λ ts. and_then (q ts) h)
sequence {p = p} {q = q} {f = f} {h = h} a next = record {
  local = local_bind p f a.local (λ x. (next x).local);
  lifts = λ ts. lift_bind (p ts) (q ts) f h (a.lifts ts) (λ x rest. (next x).lifts rest);
}

pub item_sequence : {A B : Type 0} {p q : Reader A} {f h : A → Reader B} → Item p q → ((x : A) → Widens (f x) (h x)) → Item (λ ts. and_then (p ts) f) (λ ts. and_then (q ts) h)
item_sequence {p = p} {f = f} a next = record { widens = sequence a.widens next; takes = takes_bind p f a.widens.local (λ x. (next x).local) a.takes }

pub after_item : {A B : Type 0} {p q : Reader A} {f h : A → Reader B} → Item p q → ((x : A) → Widens (f x) (h x)) → Widens (λ ts. and_then (p ts) f) (λ ts. and_then (q ts) h)
after_item a next = sequence a.widens next

-- ---- the class of the next token decides

pub choice : {A : Type 0} {f h : TokenClass → Reader A} → ((y : TokenClass) → Widens (f y) (h y)) → Widens (λ ts. f (class_of (ahead ts)) ts) (λ ts. h (class_of (ahead ts)) ts)
choice {f = f} by = record { local = local_look (λ t. f (class_of t)) (λ t. (by (class_of t)).local); lifts = λ ts. (by (class_of (ahead ts))).lifts ts }

pub item_choice : {A : Type 0} {f h : TokenClass → Reader A} → ((y : TokenClass) → Item (f y) (h y)) → Item (λ ts. f (class_of (ahead ts)) ts) (λ ts. h (class_of (ahead ts)) ts)
item_choice by = record { widens = choice (λ y. (by y).widens); takes = record { shorter = λ ts x rest e. (by (class_of (ahead ts))).takes.shorter ts x rest e } }

pub item_fault : {A : Type 0} (k : Fault) → Item (bad {A = A} k) (bad k)
item_fault k = record { widens = fault k; takes = record { shorter = λ ts x rest e. absurd (cc) } }

-- ---- a phrase below

pub below : {A : Type 0} {p q : Reader A} (d : ℕ) → Widens p q → Widens (deeper d p) (deeper (suc d) q)
below {p = p} {q = q} d w = record { local = local_deeper d p w.local; lifts = λ ts. lift_deeper d p q ts (w.lifts ts) }

pub item_below : {A : Type 0} {p q : Reader A} (d : ℕ) → Item p q → Item (deeper d p) (deeper (suc d) q)
item_below zero i = record { widens = below zero i.widens; takes = record { shorter = λ ts x rest e. absurd (cc) } }
item_below (suc d) i = record { widens = below (suc d) i.widens; takes = i.takes }

-- ---- items

pub items : {A B : Type 0} {p q : Reader A} (begins : TokenClass → Bool) (add : B → A → B) → Item p q → (acc : B) → Widens (all begins p add acc) (all begins q add acc)
items {p = p} {q = q} begins add i acc = record { local = local_all begins p add i.takes i.widens.local acc; lifts = lift_all begins p q add i.widens.lifts acc }

-- ---- no height

-- a fault of depth, beside any reader
pub deepest : {A : Type 0} (q : Reader A) → Widens (bad Deep) q
deepest q = record { local = local_bad Deep; lifts = λ ts. deep refl }

-- Without height nothing is read: what begins a phrase is too deep.
abbrev pub floor : {A : Type 0} → (TokenClass → Bool) → Reader A
floor begins = λ ts. cond (begins (class_of (ahead ts))) (bad Deep) (bad Syntax) ts

pub widen_floor : {A : Type 0} (begins : TokenClass → Bool) (q : Reader A) → ((ts : Tokens) → begins (class_of (ahead ts)) ≡ false → q ts ≡ Bad Syntax ts) → Widens (floor begins) q
widen_floor {A} begins q none = record {
  local = local_look (λ t. cond (begins (class_of t)) (bad Deep) (bad Syntax)) (λ t. local_if (begins (class_of t)) (bad Deep) (bad Syntax) (local_bad Deep) (local_bad Syntax));
  lifts = λ ts. by_test ts (begins (class_of (ahead ts))) refl;
}
  where
    by_test : (ts : Tokens) (b : Bool) → begins (class_of (ahead ts)) ≡ b → Lifts (cond {A = Reader A} b (bad Deep) (bad Syntax) ts) (q ts)
    by_test ts true e = deep refl
    by_test ts false e = same (sym (none ts e))

pub item_floor : {A : Type 0} (begins : TokenClass → Bool) (q : Reader A) → ((ts : Tokens) → begins (class_of (ahead ts)) ≡ false → q ts ≡ Bad Syntax ts) → Item (floor begins) q
item_floor {A} begins q none = record { widens = widen_floor begins q none; takes = record { shorter = λ ts x rest. by_test ts x rest (begins (class_of (ahead ts))) } }
  where
    by_test : (ts : Tokens) (x : A) (rest : Tokens) (b : Bool) → cond {A = Reader A} b (bad Deep) (bad Syntax) ts ≡ Got x rest → length rest < length ts
    by_test ts x rest true e = absurd (cc)
    by_test ts x rest false e = absurd (cc)

pub ruleset widening = (got, fault, item_fault, skip_item, name_item, number_item, want_item, after_item, sequence, item_sequence, below, item_below, items)
