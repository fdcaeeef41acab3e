-- The words that begin lines.
use Rattle.std.specs.Prelude.{ℕ, List, [], ◌∷◌, Option, Some, None, codes}
use Rattle.sd_cert.specs.declared.keyword.Keyword.{Keyword}
use Rattle.sd_cert.specs.declared.keyword.Keyword.TheVariants.{Version, Old, New, Settings, Pairs, Pair, Candidate}
use Rattle.sd_cert.specs.declared.keyword.Keyword.TheVariants.{TermEq, TermLe, TermRead, TermDiff, Split, Order, Ite}
use Rattle.sd_cert.specs.declared.keyword.Keyword.TheVariants.{Chain, Close, Rows, Fact, Back, Add, Cut}
use Rattle.sd_cert.specs.Fields.{after_front}

abbrev pub front_of : Keyword → List ℕ
front_of Version = codes "symdiff-certificate "
front_of Old = codes "old "
front_of New = codes "new "
front_of Settings = codes "settings "
front_of Pairs = codes "pairs "
front_of Pair = codes "pair "
front_of Candidate = codes "candidate "
front_of TermEq = codes "term eq "
front_of TermLe = codes "term le "
front_of TermRead = codes "term read "
front_of TermDiff = codes "term diff "
front_of Split = codes "split "
front_of Order = codes "order "
front_of Ite = codes "ite "
front_of Chain = codes "chain "
front_of Close = codes "close "
front_of Rows = codes "rows "
front_of Fact = codes "fact "
front_of Back = codes "back "
front_of Add = codes "add "
front_of Cut = codes "cut "

abbrev pub keywords : List Keyword
keywords =
    Version ∷ Old ∷ New ∷ Settings ∷ Pairs ∷ Pair ∷ Candidate ∷ TermEq ∷ TermLe ∷ TermRead ∷ TermDiff ∷ Split ∷ Order
    ∷ Ite ∷ Chain ∷ Close ∷ Rows ∷ Fact ∷ Back ∷ Add ∷ Cut ∷ []

abbrev pub with_rest : Keyword → Option (List ℕ) → Option (Keyword × List ℕ) → Option (Keyword × List ℕ)
with_rest k None other = other
with_rest k (Some rest) other = Some (k, rest)

-- the first of these words that the text begins with, and what follows it
abbrev pub keyword_in : List Keyword → List ℕ → Option (Keyword × List ℕ)
keyword_in [] text = None
keyword_in (k ∷ ks) text = with_rest k (after_front (front_of k) text) (keyword_in ks text)
