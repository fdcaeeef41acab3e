-- What the readers of lists answer, from what their items' readers answer.
use Rattle.std.proofs.Common.{◌≡◌, ℕ, suc, ◌≤◌, max, true, List, [], ◌∷◌, ◌++◌, length, refl, sym, subst, arith}
use Rattle.std.specs.Prelude.{Bool}
use Rattle.sd_lex.specs.declared.Token.{Token}
use Rattle.sd_parse.specs.declared.class.TokenClass.{TokenClass}
use Rattle.sd_parse.specs.declared.class.TokenClass.TheVariants as s
use Rattle.sd_parse.specs.Grammar.{Tokens}
use Rattle.sd_parse.specs.Rows as w
use Rattle.sd_parse.specs.Rows.{Row, Joined, Commas, Enclosed}
use Rattle.sd_parse.specs.Reading.{Syntax, Deep, Step, Got, Bad, Reader, and_then, ahead, class_of, want, many, all}
use Rattle.sd_parse.specs.ReadingRows.{push, join_lists, is, listed_by, listed, enclosed}
use Rattle.sd_parse.specs.ReadingRows as reading
use Rattle.sd_parse.proofs.Texts.{wanted, nothing, both, Repeat, same_is}
use Rattle.sd_parse.proofs.Lists as lists
use Rattle.sd_parse.proofs.Lists.{Many, none, more, Behind, pushed, joined}
use Rattle.sd_parse.proofs.Rows.{Low, Next, next, to_next, row_of, of_row, joined_of, of_joined, to_commas, Opened, opened, to_none, to_some, to_enclosed}
use Rattle.sd_parse.proofs.Spelling.{Spelled, spelled}
use Rattle.sd_parse.proofs.Algebra.{Begins, Answers, Rule, stop_deep, into, fails, seq, done, rule_into, want_rule, after, many_rule, wide}

pub low_wide : {A : Type 0} (F : Tokens → A → ℕ → Type 0) (d : ℕ) (u : Tokens) (x : A) → Low F d u x → Low F (wide d) u x
low_wide F d u x w = record { height = w.height; spelt = w.spelt; low = let z = w.low in omega arith }

-- as many items as there are
pub all_rule : {A B : Type 0} (F V : Tokens → A → Type 0) (begins : TokenClass → Bool) (item : Reader A) (add : B → A → B) → ((u : Tokens) (x : A) → F u x → V u x) → ((ts : Tokens) → begins (class_of (ahead ts)) ≡ true → Answers F V ts (item ts))
    → (acc : B) → Rule (Repeat F begins add acc) (Repeat V begins add acc) (all begins item add acc)
all_rule {B = B} F V begins item add up law acc =
    let at : (n : ℕ) → Rule (Repeat F begins add acc) (Repeat V begins add acc) (many begins item add n acc) = λ n. many_rule F V begins item add up law n acc in
    record { least = (at 0).least; up = (at 0).up; answers = λ ts. (at (suc (length ts))).answers ts }

many_up : {A : Type 0} {F V : Tokens → A → Type 0} → ((u : Tokens) (x : A) → F u x → V u x) → {u : Tokens} {xs : List A} → Many F u xs → Many V u xs
many_up f none = none
many_up f (more {u = u} {x = x} a m) = more (f u x a) (many_up f m)

pub joined_up : {A : Type 0} {F V : Tokens → List A → Type 0} → ((u : Tokens) (x : List A) → F u x → V u x) → {u : Tokens} {xs : List A} → lists.Joined F u xs → lists.Joined V u xs
joined_up f lists.none = lists.none
joined_up f (lists.more {u = u} {xs = x} a m) = lists.more (f u x a) (joined_up f m)

module _ {A : Type 0} (F V : Tokens → A → ℕ → Type 0) (d : ℕ) (up : (u : Tokens) (x : A) → Low F d u x → Low V (wide d) u x) where
  to_row : (H : Tokens → A → ℕ → Type 0) (n : ℕ) (begins : TokenClass → Bool) (u : Tokens) (xs : List A) → Repeat (Low H n) begins push [] u xs → Low (Row H) n u xs
  to_row H n begins u xs m = let w = pushed (Low H n) begins m in subst (λ ys. Low (Row H) n u ys) (sym w.same) (row_of H n w.list)

  row_up : (u : Tokens) (xs : List A) → Low (Row F) d u xs → Low (Row V) (wide d) u xs
  row_up u xs w = row_of V (wide d) (many_up up (of_row F d w.spelt w.low))

  pub row_rule : (begins : TokenClass → Bool) (item : Reader A) → ((ts : Tokens) → begins (class_of (ahead ts)) ≡ true → Answers (Low F d) (Low V (wide d)) ts (item ts)) → Rule (Low (Row F) d) (Low (Row V) (wide d)) (all begins item push [])
  row_rule begins item law = rule_into (to_row F d begins) (to_row V (wide d) begins) row_up (all_rule (Low F d) (Low V (wide d)) begins item push up law [])

module _ {A : Type 0} (F V : Tokens → List A → ℕ → Type 0) (d : ℕ) (up : (u : Tokens) (x : List A) → Low F d u x → Low V (wide d) u x) where
  to_joined : (H : Tokens → List A → ℕ → Type 0) (n : ℕ) (begins : TokenClass → Bool) (u : Tokens) (xs : List A) → Repeat (Low H n) begins join_lists [] u xs → Low (Joined H) n u xs
  to_joined H n begins u xs m = let w = joined (Low H n) begins m in subst (λ ys. Low (Joined H) n u ys) (sym w.same) (joined_of H n w.list)

  join_up : (u : Tokens) (xs : List A) → Low (Joined F) d u xs → Low (Joined V) (wide d) u xs
  join_up u xs w = joined_of V (wide d) (joined_up up (of_joined F d w.spelt w.low))

  pub joined_rule : (begins : TokenClass → Bool) (item : Reader (List A)) → ((ts : Tokens) → begins (class_of (ahead ts)) ≡ true → Answers (Low F d) (Low V (wide d)) ts (item ts)) → Rule (Low (Joined F) d) (Low (Joined V) (wide d)) (all begins item join_lists [])
  joined_rule begins item law = rule_into (to_joined F d begins) (to_joined V (wide d) begins) join_up (all_rule (Low F d) (Low V (wide d)) begins item join_lists up law [])

-- ---- items with commas between them

pub next_wide : {A : Type 0} {F V : Tokens → A → Type 0} → ((u : Tokens) (x : A) → F u x → V u x) → (u : Tokens) (x : A) → Next F u x → Next V u x
next_wide f w x (next {u = u} i a) = next i (f u x a)

module _ {A : Type 0} {F V : Tokens → A → Type 0} {item : Reader A} (rule : Rule F V item) where
  pub next_answers : (ts : Tokens) → is s.Comma (class_of (ahead ts)) ≡ true → Answers (Next F) (Next V) ts (reading.next item ts)
  unfolding reading.next
  next_answers ts e = into (to_next F) (to_next V) (after s.Comma (spelled s.Comma refl) ts (same_is (class_of (ahead ts)) s.Comma e) (λ _. rule))

  behind_up : (acc : List A) (u : Tokens) (xs : List A) → Behind (Many (Next F)) acc u xs → Behind (Many (Next V)) acc u xs
  behind_up acc u xs m = record { items = m.items; same = m.same; list = many_up (next_wide rule.up) m.list }

  pub more_rule : (acc : List A) → Rule (Behind (Many (Next F)) acc) (Behind (Many (Next V)) acc) (reading.more item acc)
  unfolding reading.more
  more_rule acc = rule_into (λ u y m. pushed (Next F) (is s.Comma) m) (λ u y m. pushed (Next V) (is s.Comma) m) (behind_up acc) (all_rule (Next F) (Next V) (is s.Comma) (reading.next item) push (next_wide rule.up) next_answers acc)

commas_up : {A : Type 0} (F V : Tokens → A → ℕ → Type 0) (d n : ℕ) → ((u : Tokens) (x : A) → Low F d u x → Low V n u x) → {u : Tokens} {xs : List A} {h : ℕ} → Commas F u xs h → h ≤ d → Low (Commas V) n u xs
commas_up F V d n f (w.one {u = u} {x = x} {h = h} a) low = let b = f u x (record { height = h; spelt = a; low = low }) in record { height = b.height; spelt = w.one b.spelt; low = b.low }
commas_up F V d n f (w.more {u = u} {x = x} {h = h} {k = k} a i m) low =
    let b = f u x (record { height = h; spelt = a; low = omega arith }) in
    let c = commas_up F V d n f m (omega arith) in
    record { height = max b.height c.height; spelt = w.more b.spelt i c.spelt; low = let y = b.low in let z = c.low in omega arith }

-- An item's reader without room refuses at once.
pub data Refuses {A : Type 0} (V : Tokens → A → Type 0) (ts : Tokens) (step : Step A) : Type 0 where
  refused : step ≡ Bad Syntax ts → Refuses V ts step
  too_deep : (t : Token) (r : Tokens) → ts ≡ t ∷ r → step ≡ Bad Deep ts → Begins V (t ∷ []) → Refuses V ts step

module _ {A : Type 0} (F V : Tokens → A → ℕ → Type 0) (d : ℕ) (up : (u : Tokens) (x : A) → Low F d u x → Low V (wide d) u x) where
  pub commas_rule : {item : Reader A} → Rule (Low F d) (Low V (wide d)) item → Rule (Low (Commas F) d) (Low (Commas V) (wide d)) (reading.commas item)
  unfolding reading.commas
  commas_rule rule = rule_into (to_commas F d) (to_commas V (wide d)) (λ u xs m. commas_up F V d (wide d) up m.spelt m.low) (seq rule (λ x. more_rule rule (x ∷ [])))

  -- the reader of an item, which has room or refuses at once
  pub data Item (item : Reader A) : Type 0 where
    full : Rule (Low F d) (Low V (wide d)) item → Item item
    floor : ((ts : Tokens) → Refuses (Low V (wide d)) ts (item ts)) → Item item

  none_opened : (H : Tokens → A → ℕ → Type 0) (n : ℕ) → Begins (Opened H n) []
  none_opened H n = record { more = (spelled s.Close refl).token ∷ []; value = []; spelt = opened (to_none H n ((spelled s.Close refl).token ∷ []) [] (both (wanted (spelled s.Close refl).is) nothing)) }

  one_opened : (t : Token) → Begins (Low V (wide d)) (t ∷ []) → Begins (Opened V (wide d)) (t ∷ [])
  one_opened t b =
      let first : Low (Commas V) (wide d) (t ∷ b.more) (b.value ∷ []) = record { height = b.spelt.height; spelt = w.one b.spelt.spelt; low = b.spelt.low } in
      record { more = b.more ++ (spelled s.Close refl).token ∷ []; value = b.value ∷ []; spelt = opened (to_some V (wide d) (t ∷ (b.more ++ (spelled s.Close refl).token ∷ [])) (b.value ∷ []) (both {u = t ∷ b.more} first (both (wanted (spelled s.Close refl).is) nothing))) }

  opened_up : (u : Tokens) (xs : List A) → Opened F d u xs → Opened V (wide d) u xs
  opened_up u xs (opened f) = opened (λ o i. enclosed_up (f o i))
    where
      by_text : {u : Tokens} {xs : List A} {h : ℕ} → Enclosed F u xs h → h ≤ d → Low (Enclosed V) (wide d) u xs
      by_text (w.none i j) low = record { height = 0; spelt = w.none i j; low = omega arith }
      by_text (w.some i m j) low = let y = commas_up F V d (wide d) up m low in record { height = y.height; spelt = w.some i y.spelt j; low = y.low }

      enclosed_up : {u : Tokens} {xs : List A} → Low (Enclosed F) d u xs → Low (Enclosed V) (wide d) u xs
      enclosed_up w = by_text w.spelt w.low

  low_listed : (item : Reader A) {ts : Tokens} {step : Step A} → Refuses (Low V (wide d)) ts step → Answers (Opened F d) (Opened V (wide d)) ts (and_then (and_then step (λ x. reading.more item (x ∷ []))) (λ xs ts. and_then (want s.Close ts) (λ _ ts. Got xs ts)))
  low_listed item {ts = ts} (refused e) = subst (λ z. Answers (Opened F d) (Opened V (wide d)) ts (and_then (and_then z (λ x. reading.more item (x ∷ []))) (λ xs ts. and_then (want s.Close ts) (λ _ ts. Got xs ts)))) (sym e) (fails (none_opened F d))
  low_listed item {ts = ts} (too_deep t r split e b) =
      subst (λ z. Answers (Opened F d) (Opened V (wide d)) ts (and_then (and_then z (λ x. reading.more item (x ∷ []))) (λ xs ts. and_then (want s.Close ts) (λ _ ts. Got xs ts)))) (sym e)
      (subst (λ ts. Answers (Opened F d) (Opened V (wide d)) ts (Bad Deep ts)) (sym split) (record { fact = stop_deep (Opened F d) (Opened V (wide d)) [] t r (none_opened F d) (one_opened t b) }))

  listed_rule : {item : Reader A} → Item item → Rule (Opened F d) (Opened V (wide d)) (listed item)
  unfolding listed reading.commas
  listed_rule {item = item} i = record { least = none_opened F d; up = opened_up; answers = λ ts. by_class ts (class_of (ahead ts)) refl }
    where
      by_item : (ts : Tokens) → Item item → Answers (Opened F d) (Opened V (wide d)) ts (and_then (reading.commas item ts) (λ xs ts. and_then (want s.Close ts) (λ _ ts. Got xs ts)))
      by_item ts (full rule) = into (λ u xs w. opened (to_some F d u xs w)) (λ u xs w. opened (to_some V (wide d) u xs w)) ((seq (commas_rule rule) (λ ys. seq (want_rule s.Close (spelled s.Close refl)) (λ _. done ys))).answers ts)
      by_item ts (floor f) = low_listed item (f ts)

      by_class : (ts : Tokens) (x : TokenClass) → class_of (ahead ts) ≡ x → Answers (Opened F d) (Opened V (wide d)) ts (listed_by item x ts)
      by_class ts s.Close e = into (λ u xs w. opened (to_none F d u xs w)) (λ u xs w. opened (to_none V (wide d) u xs w)) (after s.Close (spelled s.Close refl) ts e (λ _. done []))
      by_class ts _ e = by_item ts i

  enclosed_wide : (u : Tokens) (xs : List A) → Low (Enclosed F) d u xs → Low (Enclosed V) (wide d) u xs
  enclosed_wide u xs y = by_text y.spelt y.low
    where
      by_text : {u : Tokens} {xs : List A} {h : ℕ} → Enclosed F u xs h → h ≤ d → Low (Enclosed V) (wide d) u xs
      by_text (w.none i j) low = record { height = 0; spelt = w.none i j; low = omega arith }
      by_text (w.some i m j) low = let y = commas_up F V d (wide d) up m low in record { height = y.height; spelt = w.some i y.spelt j; low = y.low }

  pub enclosed_rule : {item : Reader A} → Item item → Rule (Low (Enclosed F) d) (Low (Enclosed V) (wide d)) (enclosed item)
  unfolding enclosed
  enclosed_rule i = rule_into (to_enclosed F d) (to_enclosed V (wide d)) enclosed_wide (seq (want_rule s.Open (spelled s.Open refl)) (λ _. listed_rule i))
