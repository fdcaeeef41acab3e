-- One piece more.
use Rattle.std.proofs.Common.{◌≡◌, ℕ, ◌+◌, ◌≤◌, List, ◌∷◌, ◌++◌, length, take, drop, ap, sym, subst, take-append-drop, length-take-le, drop-drop}
use Rattle.sd_lex.specs.declared.token.Token.{Token}
use Rattle.sd_lex.specs.declared.token.TokenKind.{TokenKind}
use Rattle.sd_lex.specs.declared.token.LexError.{LexError}
use Rattle.sd_lex.specs.declared.token.Piece.{Piece}
use Rattle.sd_lex.specs.declared.token.Piece.TheVariants.{Gap, Whole}
use Rattle.sd_lex.specs.Pieces.{Bytes, BeginsWith}
use Rattle.sd_lex.specs.Tokens.{Tokens, Refused, IsRefusal, token_at, gap, token, here, gap_later, token_later}

module _ (bytes : Bytes) (at n : ℕ) where
  rest_is : drop (at + n) bytes ≡ drop n (drop at bytes)
  rest_is = sym (drop-drop n at bytes)

  whole_is : drop at bytes ≡ take n (drop at bytes) ++ drop n (drop at bytes)
  whole_is = sym (take-append-drop n (drop at bytes))

  place_is : n ≤ length (drop at bytes) → at + n ≡ at + length (take n (drop at bytes))
  place_is h = ap (λ k. at + k) (sym (length-take-le n (drop at bytes) h))

  pub gap_step : (ts : List Token) → BeginsWith (drop at bytes) Gap n → Tokens (at + n) (drop (at + n) bytes) ts → Tokens at (drop at bytes) ts
  gap_step ts b t = gap b.cut whole_is (subst (λ k. Tokens k (drop n (drop at bytes)) ts) (place_is b.within) (subst (λ r. Tokens (at + n) r ts) rest_is t))

  pub token_step : (kind : TokenKind) (ts : List Token) → BeginsWith (drop at bytes) (Whole kind) n → Tokens (at + n) (drop (at + n) bytes) ts → Tokens at (drop at bytes) (token_at at kind ∷ ts)
  token_step kind ts b t = token b.cut whole_is (subst (λ k. Tokens k (drop n (drop at bytes)) ts) (place_is b.within) (subst (λ r. Tokens (at + n) r ts) rest_is t))

  pub gap_refused : (e : LexError) → BeginsWith (drop at bytes) Gap n → Refused (at + n) (drop (at + n) bytes) e → Refused at (drop at bytes) e
  gap_refused e b t = gap_later b.cut whole_is (subst (λ k. Refused k (drop n (drop at bytes)) e) (place_is b.within) (subst (λ r. Refused (at + n) r e) rest_is t))

  pub token_refused : (kind : TokenKind) (e : LexError) → BeginsWith (drop at bytes) (Whole kind) n → Refused (at + n) (drop (at + n) bytes) e → Refused at (drop at bytes) e
  token_refused kind e b t = token_later b.cut whole_is (subst (λ k. Refused k (drop n (drop at bytes)) e) (place_is b.within) (subst (λ r. Refused (at + n) r e) rest_is t))

  pub refused_here : (p : Piece) (e : LexError) → BeginsWith (drop at bytes) p n → IsRefusal at p e → Refused at (drop at bytes) e
  refused_here p e b r = here b.cut whole_is r
