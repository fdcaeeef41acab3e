-- A text grows line by line.
use Rattle.std.proofs.Common.{◌≡◌, ℕ, ◌+◌, ◌<◌, List, [], ◌∷◌, ◌++◌, map, length, get_or, take, sym, ap, ◌∙◌, subst, arith, append_assoc}
use Rattle.std.specs.List.{flat_map}
use Rattle.std.proofs.lemmas.List.{map_more, length-take-le, append-nil}
use Rattle.std.proofs.lemmas.Grind.{flat_map-append}
use Rattle.sd_kernel.specs.declared.RowLine.{RowLine}
use Rattle.sd_kernel.specs.declared.Proved.{Proved}
use Rattle.sd_cert.specs.declared.certificate.CertPair.{CertPair}
use Rattle.sd_cert.specs.declared.certificate.Certificate.{Certificate}
use Rattle.sd_cert.specs.declared.line.Line.{Line}
use Rattle.sd_cert.specs.declared.line.Line.TheVariants.{Version, Old, New, Settings, Pairs, Pair, Row, End}
use Rattle.sd_cert.specs.Text.{lines_text}
use Rattle.sd_cert.specs.Lines.{IsLine}
use Rattle.sd_cert.specs.Added.{IsAdded}
use Rattle.sd_cert.specs.Certificates.{proved_lines, pair_lines, certificate_lines}
use Rattle.sd_cert.proofs.TextLemmas.{lines_text-append}
use Rattle.sd_cert.proofs.PrefixLemmas.{pair_lines-push}
use Rattle.sd_base.proofs.Lists.{all-append, take-at}

-- the lines are the same ones
pub added-same : (ls ms : List Line) (old new : List ℕ) → ls ≡ ms → IsAdded ls old new → IsAdded ms old new
added-same ls ms old new e h = subst (λ (x : List Line). IsAdded x old new) e h

pub pushed : (old now next : List ℕ) (ls ms : List Line) → IsAdded ls old now → IsAdded ms now next → IsAdded (ls ++ ms) old next
pushed old now next ls ms h k = record {
  fit = all-append IsLine ls ms h.fit k.fit;
  text = k.text ∙ ap (λ t. t ++ lines_text ms) h.text ∙ append_assoc old (lines_text ls) (lines_text ms) ∙ ap (λ t. old ++ t) (sym (lines_text-append ls ms));
}

-- the lines of one item more
pub item-pushed : {A : Type 0} (lines_of : A → List Line) (old now next : List ℕ) (xs : List A) (i : ℕ) (x : A) → i < length xs → x ≡ get_or xs i x → IsAdded (flat_map lines_of (take i xs)) old now → IsAdded (lines_of x) now next → IsAdded (flat_map lines_of (take (i + 1) xs)) old next
item-pushed lines_of old now next xs i x within at h k =
    let more =
    ap (flat_map lines_of) (take-at xs i x within at)
    ∙ flat_map-append lines_of (take i xs) (x ∷ []) ∙ ap (λ ls. flat_map lines_of (take i xs) ++ ls) (append-nil (lines_of x))
    in added-same _ _ old next (sym more) (pushed old now next (flat_map lines_of (take i xs)) (lines_of x) h k)

pub rows-pushed : (old now next : List ℕ) (rows : List RowLine) (i : ℕ) (d : RowLine) → i < length rows → IsAdded (map Row (take i rows)) old now → IsAdded (Row (get_or rows i d) ∷ []) now next → IsAdded (map Row (take (i + 1) rows)) old next
rows-pushed old now next rows i d within h k =
    added-same _ _ old next (sym (map_more Row rows i d within)) (pushed old now next (map Row (take i rows)) (Row (get_or rows i d) ∷ []) h k)

pub pairs-pushed : (old now middle next : List ℕ) (ps : List CertPair) (i : ℕ) (p : CertPair) (proved : List Proved) → i < length ps → p ≡ get_or ps i p → proved ≡ p.proved → IsAdded (pair_lines 0 (take i ps)) old now → IsAdded (Pair i p.state ∷ []) now middle → IsAdded (flat_map proved_lines proved) middle next → IsAdded (pair_lines 0 (take (i + 1) ps)) old next
pairs-pushed old now middle next ps i p proved within at are h k m =
    let place : 0 + length (take i ps) ≡ i = omega (arith, length-take-le i ps (omega arith))
    in let more =
    ap (pair_lines 0) (take-at ps i p within at) ∙ pair_lines-push 0 (take i ps) p
    ∙ ap (λ n. pair_lines 0 (take i ps) ++ Pair n p.state ∷ flat_map proved_lines p.proved) place
    ∙ ap (λ l. pair_lines 0 (take i ps) ++ Pair i p.state ∷ flat_map proved_lines l) (sym are)
    ∙ sym (append_assoc (pair_lines 0 (take i ps)) (Pair i p.state ∷ []) (flat_map proved_lines proved))
    in added-same _ _ old next (sym more)
    (pushed old middle next (pair_lines 0 (take i ps) ++ Pair i p.state ∷ []) (flat_map proved_lines proved) (pushed old now middle (pair_lines 0 (take i ps)) (Pair i p.state ∷ []) h k) m)

pub spelled : (c : Certificate) (pairs : List CertPair) → pairs ≡ c.pairs → (t0 t1 t2 t3 t4 t5 t6 t7 : List ℕ) → t0 ≡ [] → IsAdded (Version 1 ∷ []) t0 t1 → IsAdded (Old c.digests.old ∷ []) t1 t2 → IsAdded (New c.digests.new ∷ []) t2 t3 → IsAdded (Settings c.digests.settings ∷ []) t3 t4 → IsAdded (Pairs (length pairs) ∷ []) t4 t5 → IsAdded (pair_lines 0 pairs) t5 t6 → IsAdded (End ∷ []) t6 t7 → IsAdded (certificate_lines c) [] t7
spelled c pairs are t0 t1 t2 t3 t4 t5 t6 t7 e0 e1 e2 e3 e4 e5 e6 e7 =
    let h1 = subst (λ (t : List ℕ). IsAdded (Version 1 ∷ []) t t1) e0 e1
    in let h2 = pushed [] t1 t2 (Version 1 ∷ []) (Old c.digests.old ∷ []) h1 e2
    in let h3 = pushed [] t2 t3 (Version 1 ∷ Old c.digests.old ∷ []) (New c.digests.new ∷ []) h2 e3
    in let h4 = pushed [] t3 t4 (Version 1 ∷ Old c.digests.old ∷ New c.digests.new ∷ []) (Settings c.digests.settings ∷ []) h3 e4
    in let h5 = pushed [] t4 t5 (Version 1 ∷ Old c.digests.old ∷ New c.digests.new ∷ Settings c.digests.settings ∷ []) (Pairs (length pairs) ∷ []) h4 e5
    in let h6 = pushed [] t5 t6 (Version 1 ∷ Old c.digests.old ∷ New c.digests.new ∷ Settings c.digests.settings ∷ Pairs (length pairs) ∷ []) (pair_lines 0 pairs) h5 e6
    in let h7 = pushed [] t6 t7 (Version 1 ∷ Old c.digests.old ∷ New c.digests.new ∷ Settings c.digests.settings ∷ Pairs (length pairs) ∷ pair_lines 0 pairs) (End ∷ []) h6 e7
    in subst (λ (ps : List CertPair). IsAdded (Version 1 ∷ Old c.digests.old ∷ New c.digests.new ∷ Settings c.digests.settings ∷ Pairs (length ps) ∷ (pair_lines 0 ps ++ End ∷ [])) [] t7) are h7
