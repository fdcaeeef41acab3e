-- Sweeps one after another.
use Rattle.std.proofs.Common.{◌≡◌, ◌∙◌, sym, ap, refl, subst, ℕ, zero, suc, ◌+◌, ◌-◌, ◌<◌, ◌≤◌, Bool, true, false, List, [], ◌∷◌, ◌++◌, length, set, append_assoc, append-nil, length-append, arith, inl, inr}
use Rattle.std.specs.Prelude.{◌⊎◌, Some, replicate, slice_get}
use Rattle.std.specs.List.{AllByRecursion}
use Rattle.std.proofs.lemmas.List.{map-append}
use Rattle.std.proofs.lemmas.Grind.{flat_map-append}
use Rattle.std.proofs.lemmas.Option.{slice_get_within}
use Rattle.sd_base.proofs.Lists.{all-append, all-weaker}
use Rattle.sd_kernel.specs.declared.proved.How.TheVariants.{Steps}
use Rattle.sd_kernel.specs.declared.Proof.{Proof}
use Rattle.sd_product.specs.Work.{PairedPrograms, claims_in, queries_of}
use Rattle.sd_rounds.specs.declared.settle.Death.{Death}
use Rattle.sd_rounds.specs.Table.{cleared}
use Rattle.sd_rounds.specs.Settled.{dead_of, IsProved, Ascend, table_after, HasProof, IsProvedIn, IsSweep, Lead, AreAllSweeps}
use Rattle.sd_rounds.specs.Sweep.{IsSweptTo, SweepsOn, IsWholeSweep, HaveLed}
use Rattle.sd_rounds.proofs.Settling.{cleared-snoc, not_set, live_before_set}

-- ---- numbers that ascend

ascend-last : (cs : List ℕ) (n : ℕ) → Ascend cs → AllByRecursion (λ c. c < n) cs → Ascend (cs ++ n ∷ [])
ascend-last [] n a below = (tt, tt)
ascend-last (c ∷ cs) n a below = (all-append (λ d. c < d) cs (n ∷ []) a.0 (below.0, tt), ascend-last cs n a.1 below.1)

numbers-below : (n : ℕ) (ds : List Death) → AllByRecursion (λ d. d.candidate < n) ds → AllByRecursion (λ c. c < n) (dead_of ds)
numbers-below n [] h = tt
numbers-below n (d ∷ ds) h = (h.0, numbers-below n ds h.1)

dead-last : (ds : List Death) (d : Death) → dead_of (ds ++ d ∷ []) ≡ dead_of ds ++ d.candidate ∷ []
dead-last ds d = map-append (λ x. x.candidate) ds (d ∷ [])

-- ---- one candidate

one-more : (n : ℕ) (ds : List Death) → AllByRecursion (λ d. d.candidate < n) ds → AllByRecursion (λ d. d.candidate < n + 1) ds
one-more n ds h = all-weaker (λ (d : Death). d.candidate < n) (λ d. d.candidate < n + 1) (λ d k. omega (arith, k)) ds h

below-or-at : (c n : ℕ) → c < n + 1 → (c < n) ⊎ (c ≡ n)
below-or-at zero zero h = inr refl
below-or-at zero (suc n) h = inl (omega arith)
below-or-at (suc c) zero h = absurd (omega (arith, h))
below-or-at (suc c) (suc n) h = elim (below-or-at c n (omega (arith, h))) [ inl k ↦ inl (omega (arith, k)) | inr e ↦ inr (ap suc e) ]

-- a candidate that wasn't live, or that was proved
module _ (work : PairedPrograms) (n : ℕ) (table : List Bool) (proof : slice_get table n ≡ Some true → HasProof work table n) (start : List Bool) (before : List Death) (s : IsSweptTo work start n before table) where
  proved-here : slice_get table n ≡ Some true → IsProvedIn work start before n
  proved-here alive = record {
    earlier = before;
    later = [];
    all = append-nil before;
    before = s.below;
    after = tt;
    proof = subst (λ (t : List Bool). HasProof work t n) s.table_is (proof alive);
  }

  proved-so-far : (c : ℕ) → (c < n) ⊎ (c ≡ n) → slice_get table c ≡ Some true → IsProvedIn work start before c
  proved-so-far c (inl below) alive = s.proved c below alive
  proved-so-far c (inr at) alive = subst (IsProvedIn work start before) (sym at) (proved-here (subst (λ (k : ℕ). slice_get table k ≡ Some true) at alive))

  passed-on : IsSweptTo work start (n + 1) before table
  passed-on = record {
    table_is = s.table_is;
    below = one-more n before s.below;
    ascend = s.ascend;
    proved = λ c below alive. proved-so-far c (below-or-at c n below) alive;
  }

passed : (work : PairedPrograms) (n : ℕ) (table : List Bool) (deaths : List Death) → (slice_get table n ≡ Some true → HasProof work table n) → SweepsOn work n (n + 1) table table deaths deaths
passed work n table deaths proof = record {
  more = [];
  added = sym (append-nil deaths);
  goes = λ start before s. subst (λ (ds : List Death). IsSweptTo work start (n + 1) ds table) (sym (append-nil before)) (passed-on work n table proof start before s);
}

pub sweeps-idle : (work : PairedPrograms) (n : ℕ) (table : List Bool) (deaths : List Death) → slice_get table n ≡ Some false → SweepsOn work n (n + 1) table table deaths deaths
sweeps-idle work n table deaths idle = passed work n table deaths (λ alive. absurd (let bad = sym alive ∙ idle in cc))

pub sweeps-proved : (work : PairedPrograms) (n : ℕ) (table : List Bool) (deaths : List Death) (proof : Proof) → IsProved (queries_of work table) (record { candidate = n; how = Steps proof }) → SweepsOn work n (n + 1) table table deaths deaths
sweeps-proved work n table deaths proof is = passed work n table deaths (λ alive. record { facts = is.facts; query = is.query; proof = proof; proves = is.how })

-- a candidate that died
module _ (work : PairedPrograms) (d : Death) (table table' : List Bool) (cut : table' ≡ set table d.candidate false) (start : List Bool) (before : List Death) (s : IsSweptTo work start d.candidate before table) where
  abbrev n : ℕ
  n = d.candidate

  table-after : table' ≡ table_after start (before ++ d ∷ [])
  table-after =
      cut ∙ ap (λ t. set t n false) s.table_is
      ∙ (sym (cleared-snoc start (dead_of before) n) ∙ ap (cleared start) (sym (dead-last before d)))

  live-earlier : (c : ℕ) → slice_get table' c ≡ Some true → slice_get table c ≡ Some true
  live-earlier c alive = live_before_set table n c (subst (λ (t : List Bool). slice_get t c ≡ Some true) cut alive)

  one-later : (c : ℕ) → c < n → IsProvedIn work start before c → IsProvedIn work start (before ++ d ∷ []) c
  one-later c below k = record {
    earlier = k.earlier;
    later = k.later ++ d ∷ [];
    all = sym (append_assoc k.earlier k.later (d ∷ [])) ∙ ap (λ (ds : List Death). ds ++ d ∷ []) k.all;
    before = k.before;
    after = all-append (λ (e : Death). c < e.candidate) k.later (d ∷ []) k.after (below, tt);
    proof = k.proof;
  }

  still-proved : (c : ℕ) → (c < n) ⊎ (c ≡ n) → slice_get table' c ≡ Some true → IsProvedIn work start (before ++ d ∷ []) c
  still-proved c (inl below) alive = one-later c below (s.proved c below (live-earlier c alive))
  still-proved c (inr at) alive = absurd (not_set table n (subst (λ (k : ℕ). slice_get (set table n false) k ≡ Some true) at (subst (λ (t : List Bool). slice_get t c ≡ Some true) cut alive)))

  died-on : IsSweptTo work start (n + 1) (before ++ d ∷ []) table'
  died-on = record {
    table_is = table-after;
    below = all-append (λ (e : Death). e.candidate < n + 1) before (d ∷ []) (one-more n before s.below) (omega arith, tt);
    ascend = subst Ascend (sym (dead-last before d)) (ascend-last (dead_of before) n s.ascend (numbers-below n before s.below));
    proved = λ c below alive. still-proved c (below-or-at c n below) alive;
  }

pub sweeps-died : (work : PairedPrograms) (d : Death) (table table' : List Bool) (deaths deaths' : List Death) → table' ≡ set table d.candidate false → deaths' ≡ deaths ++ d ∷ [] → SweepsOn work d.candidate (d.candidate + 1) table table' deaths deaths'
sweeps-died work d table table' deaths deaths' cut added = record { more = d ∷ []; added = added; goes = λ start before s. died-on work d table table' cut start before s }

-- ---- candidates one after another

pub sweeps-nowhere : (work : PairedPrograms) (n m : ℕ) (table : List Bool) (deaths : List Death) → n ≡ m → SweepsOn work n m table table deaths deaths
sweeps-nowhere work n m table deaths e = record {
  more = [];
  added = sym (append-nil deaths);
  goes = λ start before s. subst (λ (ds : List Death). IsSweptTo work start m ds table) (sym (append-nil before)) (subst (λ (k : ℕ). IsSweptTo work start k before table) e s);
}

pub sweeps-then : (work : PairedPrograms) (n m k : ℕ) (table0 table1 table2 : List Bool) (deaths0 deaths1 deaths2 : List Death) → SweepsOn work n m table0 table1 deaths0 deaths1 → SweepsOn work m k table1 table2 deaths1 deaths2 → SweepsOn work n k table0 table2 deaths0 deaths2
sweeps-then work n m k table0 table1 table2 deaths0 deaths1 deaths2 a b = record {
  more = a.more ++ b.more;
  added = b.added ∙ ap (λ (ds : List Death). ds ++ b.more) a.added ∙ append_assoc deaths0 a.more b.more;
  goes = λ start before s. subst (λ (ds : List Death). IsSweptTo work start k ds table2) (append_assoc before a.more b.more) (b.goes start (before ++ a.more) (a.goes start before s));
}

-- none of them is live
idle-between : (work : PairedPrograms) (table : List Bool) (deaths : List Death) (n k : ℕ) → ((c : ℕ) → n ≤ c → c < n + k → slice_get table c ≡ Some false) → SweepsOn work n (n + k) table table deaths deaths
idle-between work table deaths n zero idle = sweeps-nowhere work n (n + 0) table deaths (omega arith)
idle-between work table deaths n (suc k) idle =
    let e : (n + k) + 1 ≡ n + suc k = omega arith in
    let front = idle-between work table deaths n k (λ c lo hi. idle c lo (omega (arith, hi))) in
    let last = sweeps-idle work (n + k) table deaths (idle (n + k) (omega arith) (omega arith)) in
    subst (λ (m : ℕ). SweepsOn work n m table table deaths deaths) e (sweeps-then work n (n + k) ((n + k) + 1) table table table deaths deaths deaths front last)

pub sweeps-none : (work : PairedPrograms) (n m : ℕ) (table : List Bool) (deaths : List Death) → n ≤ m → ((c : ℕ) → n ≤ c → c < m → slice_get table c ≡ Some false) → SweepsOn work n m table table deaths deaths
sweeps-none work n m table deaths ordered idle =
    let e : n + (m - n) ≡ m = omega (arith, ordered) in
    subst (λ (k : ℕ). SweepsOn work n k table table deaths deaths) e (idle-between work table deaths n (m - n) (λ c lo hi. idle c lo (omega (arith, hi, ordered))))

-- ---- whole sweeps

starts : (work : PairedPrograms) (table : List Bool) → IsSweptTo work table 0 [] table
starts work table = record { table_is = refl; below = tt; ascend = tt; proved = λ c below alive. absurd (omega (arith, below)) }

pub whole-sweep : (work : PairedPrograms) (n : ℕ) (table table' : List Bool) (deaths deaths' : List Death) → length table' ≤ n → SweepsOn work 0 n table table' deaths deaths' → IsWholeSweep work table table' deaths deaths'
whole-sweep work n table table' deaths deaths' ends on =
    let s = on.goes table [] (starts work table) in
    record {
      more = on.more;
      added = on.added;
      sweep = record {
        ascend = s.ascend;
        proved = λ c alive.
            let here : slice_get table' c ≡ Some true = subst (λ (t : List Bool). slice_get t c ≡ Some true) (sym s.table_is) alive in
            let within : c < length table' = slice_get_within table' c true here in
            s.proved c (omega (arith, within, ends)) here;
      };
      table_is = s.table_is;
    }

-- ---- sweeps after sweeps

lead-last : (work : PairedPrograms) (table : List Bool) (sweeps : List (List Death)) (mid : List Bool) (ds : List Death) (end : List Bool) → Lead work table sweeps mid → IsSweep work mid ds → 1 ≤ length ds → end ≡ table_after mid ds → Lead work table (sweeps ++ ds ∷ []) end
lead-last work table [] mid ds end led sweep some is =
    (subst (λ (t : List Bool). IsSweep work t ds) (sym led) sweep, some, ap (λ (t : List Bool). table_after t ds) led ∙ sym is)
lead-last work table (es ∷ sweeps) mid ds end led sweep some is = (led.0, led.1, lead-last work (table_after table es) sweeps mid ds end led.2 sweep some is)

pub none-led : (work : PairedPrograms) (deaths : List Death) (table : List Bool) → deaths ≡ [] → table ≡ replicate (length (claims_in work)) true → HaveLed work 1 deaths table
none-led work deaths table none full = record { dropping = []; all = sym none; number_is = refl; lead = sym full }

-- one more that dropped something
pub one-led : (work : PairedPrograms) (number number' : ℕ) (table table' : List Bool) (deaths deaths' : List Death) → HaveLed work number deaths table → IsWholeSweep work table table' deaths deaths' → length deaths < length deaths' → number' ≡ number + 1 → HaveLed work number' deaths' table'
one-led work number number' table table' deaths deaths' led w grown next =
    let more = ap length w.added ∙ length-append deaths w.more in
    record {
      dropping = led.dropping ++ w.more ∷ [];
      all =
          flat_map-append (λ (ds : List Death). ds) led.dropping (w.more ∷ [])
          ∙ ((λ i. led.all i ++ append-nil w.more i) ∙ sym w.added);
      number_is = let k = length-append led.dropping (w.more ∷ []) in let j = led.number_is in omega (arith, k, j, next);
      lead = lead-last work (replicate (length (claims_in work)) true) led.dropping table w.more table' led.lead w.sweep (omega (arith, more, grown)) w.table_is;
    }

-- the last one dropped nothing
pub all-swept : (work : PairedPrograms) (number : ℕ) (table table' : List Bool) (deaths deaths' : List Death) → HaveLed work number deaths table → IsWholeSweep work table table' deaths deaths' → length deaths' ≡ length deaths → AreAllSweeps work number deaths' table'
all-swept work number table table' deaths deaths' led w still =
    let more = ap length w.added ∙ length-append deaths w.more in
    let none : w.more ≡ [] = nothing w.more (omega (arith, more, still)) in
    let same : table' ≡ table = w.table_is ∙ ap (table_after table) none in
    let stay : deaths' ≡ deaths = w.added ∙ ap (λ (ds : List Death). deaths ++ ds) none ∙ append-nil deaths in
    record {
      dropping = led.dropping;
      all = led.all ∙ sym stay;
      number_is = led.number_is;
      lead = subst (Lead work (replicate (length (claims_in work)) true) led.dropping) (sym same) led.lead;
      last = subst (λ (t : List Bool). IsSweep work t []) (sym same) (subst (IsSweep work table) none w.sweep);
    }
  where
    nothing : (ds : List Death) → length ds ≡ 0 → ds ≡ []
    nothing [] e = refl
    nothing (d ∷ ds) e = absurd (omega (arith, e))
