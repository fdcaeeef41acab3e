-- Proofs that are shared out among the pairs.
use Rattle.std.proofs.Common.{◌≡◌, ℕ, suc, ◌+◌, ◌-◌, ◌<◌, ◌≤◌, Bool, true, false, List, [], ◌∷◌, ◌++◌, map, length, get_or, take, drop, refl, sym, ap, ◌∙◌, subst, arith, append_assoc}
use Rattle.std.specs.List.{AllByRecursion}
use Rattle.sd_base.proofs.Lists.{all-push}
use Rattle.std.proofs.lemmas.List.{map-append, append-nil, take_all, drop_all}
use Rattle.sd_term.specs.Tree.{Tree}
use Rattle.sd_kernel.specs.declared.Proved.{Proved}
use Rattle.sd_product.specs.Work.{PairedPrograms, claims_in}
use Rattle.sd_product.specs.Inductive.{proved_of, live_from, AreProved, IsInductive}
use Rattle.sd_cert.specs.declared.header.PairHeader.{PairHeader}
use Rattle.sd_cert.specs.declared.digest.Digests.{Digests}
use Rattle.sd_cert.specs.declared.certificate.CertPair.{CertPair}
use Rattle.sd_cert.specs.Accepts.{Ascend, FitsPairs, entry_from, proofs_from, Accepts}
use Rattle.sd_cert.specs.Headers.{count_of}
use Rattle.sd_cert.specs.Written.{IsWritten}

-- ---- the entries of a pair

-- each of ascending numbers is at least the least one
pub ascend-least : (least bound : ℕ) (xs : List Proved) (y : Proved) (ys : List Proved) → Ascend least bound (proved_of (xs ++ y ∷ ys)) → least ≤ y.candidate
ascend-least least bound [] y ys a = a.0
ascend-least least bound (x ∷ xs) y ys a = let more = ascend-least (x.candidate + 1) bound xs y ys a.2 in omega (arith, a.0)

-- Where the numbers of all ascend, so do those of the entries, with the first one as 0, and those of the rest, if the entries are
-- below the end and the rest isn't.
pub split-ascends : (first end bound least : ℕ) (es rest : List Proved) → Ascend (first + least) bound (proved_of (map (entry_from first) es ++ rest)) → AllByRecursion (λ e. first + e.candidate < end) es → ((c : ℕ) (ks : List ℕ) → proved_of rest ≡ c ∷ ks → end ≤ c) → Ascend least (end - first) (proved_of es) × Ascend end bound (proved_of rest)
split-ascends first end bound least [] rest a b stop = (tt, raise (proved_of rest) stop a)
  where
    raise : (ks : List ℕ) → ((c : ℕ) (more : List ℕ) → ks ≡ c ∷ more → end ≤ c) → Ascend (first + least) bound ks → Ascend end bound ks
    raise [] stop a = tt
    raise (k ∷ ks) stop a = (stop k ks refl, a.1, a.2)
split-ascends first end bound least (e ∷ es) rest a b stop =
    let next : first + e.candidate + 1 ≡ first + (e.candidate + 1) = omega arith in
    let more = split-ascends first end bound (e.candidate + 1) es rest (subst (λ n. Ascend n bound (proved_of (map (entry_from first) es ++ rest))) next a.2) b.1 stop in
    ((omega (arith, a.0), omega (arith, b.0), more.0), more.1)

-- the first of several
pub cut-first : {X : Type 0} (xs : List X) (x : X) → 1 ≤ length xs → x ≡ get_or xs 0 x → xs ≡ x ∷ take (length xs - 1) (drop 1 xs)
cut-first [] x h e = absurd (omega arith)
cut-first (y ∷ ys) x h e =
    let size : suc (length ys) - 1 ≡ length ys = omega arith in
    ap (λ z. z ∷ ys) (sym e) ∙ ap (λ zs. x ∷ zs) (sym (ap (λ n. take n ys) size ∙ take_all (length ys) ys (omega arith)))

module _ (first : ℕ) (entries next_entries : List Proved) (e next : Proved) (left rest : List Proved) (pushed : next_entries ≡ entries ++ e ∷ []) (same : entry_from first e ≡ next) (cut : left ≡ next ∷ rest) where
  pub all-more : (proofs : List Proved) → map (entry_from first) entries ++ left ≡ proofs → map (entry_from first) next_entries ++ rest ≡ proofs
  all-more proofs h =
      ap (λ es. map (entry_from first) es ++ rest) pushed
      ∙ ap (λ es. es ++ rest) (map-append (entry_from first) entries (e ∷ []) ∙ ap (λ p. map (entry_from first) entries ++ p ∷ []) same)
      ∙ append_assoc (map (entry_from first) entries) (next ∷ []) rest
      ∙ ap (λ ps. map (entry_from first) entries ++ ps) (sym cut) ∙ h

  pub below-more : (end : ℕ) → next.candidate < end → AllByRecursion (λ e. first + e.candidate < end) entries → AllByRecursion (λ e. first + e.candidate < end) next_entries
  below-more end below all =
      subst (λ (es : List Proved). AllByRecursion (λ e. first + e.candidate < end) es) (sym pushed)
      (all-push (λ e. first + e.candidate < end) entries e all (omega (arith, ap (λ (p : Proved). p.candidate) same)))

same_first : (j k : ℕ) (js ks : List ℕ) → ◌≡◌ {A = List ℕ} (j ∷ js) (k ∷ ks) → j ≡ k
same_first j k js ks e = cc

-- no number is below the end where there is none, or where the first isn't
pub none-below : (end k : ℕ) (ps : List Proved) (rest : List ℕ) → length ps < 1 → proved_of ps ≡ k ∷ rest → end ≤ k
none-below end k [] rest h e = absurd (cc)
none-below end k (p ∷ ps) rest h e = absurd (omega arith)

pub first-above : (end k : ℕ) (ps : List Proved) (p : Proved) (rest : List ℕ) → 1 ≤ length ps → p ≡ get_or ps 0 p → end ≤ p.candidate → proved_of ps ≡ k ∷ rest → end ≤ k
first-above end k [] p rest size is h e = absurd (omega arith)
first-above end k (q ∷ qs) p rest size is h e =
    let same : p.candidate ≡ q.candidate = ap (λ (x : Proved). x.candidate) is in
    let here : q.candidate ≡ k = same_first q.candidate k (proved_of qs) rest e in omega arith

-- ---- the pairs

-- claims before any that fit the pairs that are left, with the proofs that are left, are the claims of all pairs
abbrev pub Continues : List PairHeader → List Proved → List CertPair → ℕ → List PairHeader → List Proved → Type 0
Continues headers proofs claims first left rest =
    (more : List CertPair) → FitsPairs left more → proofs_from first left more ≡ rest → FitsPairs headers (claims ++ more) × (proofs_from 0 headers (claims ++ more) ≡ proofs)

-- nothing ascends below the first number
pub none-left : (n : ℕ) (ps : List Proved) → Ascend n n (proved_of ps) → ps ≡ []
none-left n [] a = refl
none-left n (p ∷ ps) a = absurd (let low = a.0 in let high = a.1 in omega arith)

-- after the last pair no proof is left, and the claims are those of all pairs
pub fits-all : (headers : List PairHeader) (proofs : List Proved) (claims : List CertPair) (i first : ℕ) (left : List Proved) → length headers ≤ i → first + count_of (drop i headers) ≡ count_of headers
    → Ascend first (count_of headers) (proved_of left) → Continues headers proofs claims first (drop i headers) left → FitsPairs headers claims × (proofs_from 0 headers claims ≡ proofs)
fits-all headers proofs claims i first left past total a c =
    let none : drop i headers ≡ [] = drop_all i headers past in
    let all : first ≡ count_of headers = omega (arith, total, ap count_of none) in
    let empty : left ≡ [] = none-left first left (subst (λ n. Ascend first n (proved_of left)) (sym all) a) in
    let end : Continues headers proofs claims first [] left = subst (λ (ss : List PairHeader). Continues headers proofs claims first ss left) none c in
    subst (λ (cs : List CertPair). FitsPairs headers cs × (proofs_from 0 headers cs ≡ proofs)) (append-nil claims) (end [] tt (sym empty))

-- ---- what is written is accepted

weaken-least : (least k bound : ℕ) (ks : List ℕ) → least ≤ k → Ascend k bound ks → Ascend least bound ks
weaken-least least k bound [] h a = tt
weaken-least least k bound (j ∷ ks) h a = (omega (arith, a.0), a.1, a.2)

live-ascends : (n : ℕ) (table : List Bool) → Ascend n (n + length table) (live_from n table)
live-ascends n [] = tt
live-ascends n (true ∷ bs) =
    let e : suc n + length bs ≡ n + suc (length bs) = omega arith in
    let one : suc n ≡ n + 1 = omega arith in
    (omega arith, omega arith, subst (λ m. Ascend m (n + suc (length bs)) (live_from (suc n) bs)) one (subst (λ m. Ascend (suc n) m (live_from (suc n) bs)) e (live-ascends (suc n) bs)))
live-ascends n (false ∷ bs) =
    let e : suc n + length bs ≡ n + suc (length bs) = omega arith in
    weaken-least n (suc n) (n + suc (length bs)) (live_from (suc n) bs) (omega arith) (subst (λ m. Ascend (suc n) m (live_from (suc n) bs)) e (live-ascends (suc n) bs))

-- the proofs of a table ascend
pub inductive-ascends : (queries : List (List Tree)) (count : ℕ) (table : List Bool) (proofs : List Proved) → length table ≡ count → AreProved queries table proofs → Ascend 0 count (proved_of proofs)
inductive-ascends queries count table proofs size i =
    let e : 0 + length table ≡ count = omega (arith, size) in
    subst (λ (ks : List ℕ). Ascend 0 count ks) (sym i.numbers) (subst (λ n. Ascend 0 n (live_from 0 table)) e (live-ascends 0 table))

pub written-accepted : (h : PairedPrograms) (digests : Digests) (proofs : List Proved) (bytes : List ℕ) (table : List Bool) → IsWritten h digests proofs bytes → length table ≡ length (claims_in h) → IsInductive h table proofs → Accepts h digests bytes table
written-accepted h digests proofs bytes table w size i = record {
  certificate = w.certificate;
  form = w.form;
  text = w.text;
  same_digests = w.«of».same_digests;
  fits = w.«of».fits;
  size = size;
  inductive = subst (λ (ps : List Proved). IsInductive h table ps) (sym w.«of».entries) i;
}
