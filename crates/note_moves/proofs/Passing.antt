-- What becomes of the words of here-documents by a token that was read.
use Rattle.std.specs.Prelude.{◌≡◌, ℕ, suc, Bool, true, false, ◌||◌, ◌&&◌, List, [], ◌∷◌, length, Option, Some, None, is_some, option_map}
use Rattle.std.proofs.Common.{refl, ◌∙◌, ap, arith}
use Rattle.std.proofs.lemmas.List.{length-append}
use Rattle.ksh_grammar.proofs.Begins.{and_left, and_right}
use Rattle.ksh_lexer.specs.declared.kind.Token.{Token}
use Rattle.ksh_lexer.specs.declared.kind.TokenKind.{TokenKind}
use Rattle.ksh_lexer.specs.declared.kind.TokenKind.TheVariants as token
use Rattle.ksh_lexer.specs.declared.kind.Redirection.TheVariants as redirection
use Rattle.ksh_lexer.specs.Awaited.{Lexing}
use Rattle.ksh_kinds.specs.Tokens.{is_bare}
use Rattle.ksh_syntax.specs.declared.kind.Kind.TheVariants as kind
use Rattle.ksh_syntax.specs.declared.kind.Mode.{Mode}
use Rattle.ksh_syntax.specs.declared.kind.Mode.TheVariants as mode
use Rattle.ksh_syntax.specs.Takes.{is_bare as is_plain_word, same_kind}
use Rattle.ksh_scan.specs.declared.opening.HereOperator.{HereOperator}
use Rattle.ksh_scan.specs.declared.opening.Opening.{Opening}
use Rattle.ksh_scan.specs.declared.see.Seen.{Seen}
use Rattle.ksh_scan.specs.declared.state.State.{State}
use Rattle.ksh_scan.specs.After.{awaiting, document, ends_here_word, operator_by, operator_of, operator_within, word_by}
use Rattle.ksh_scan.specs.Openings.{innermost, opened_by}
use Rattle.ksh_scan.specs.Seeing.{text_of}
use Rattle.tree_moves.specs.HereWords as words
use Rattle.tree_moves.specs.HereWords.{same_bool, starts_word}
use Rattle.note_moves.proofs.Fitting.{is_operator, is_start, is_word_end, knows}
use Rattle.note_moves.proofs.Openings.{inner_word, is_word}
use Rattle.note_moves.proofs.Seen.{Facts}

pub same_so : (a b : Bool) → same_bool a b ≡ true → a ≡ b
same_so true true h = refl
same_so true false h = cc
same_so false true h = cc
same_so false false h = refl

pub record Known (n : Seen) : Type 0 where
  pub start : is_start n.token.kind ≡ starts_word n.kind
  pub word_end : is_word_end n.token.kind ≡ same_kind n.kind kind.WordEnd
  pub operator : is_operator n.token.kind ≡ same_kind n.kind kind.HereRedirect

pub all_known : (n : Seen) → knows n.token.kind n.kind ≡ true → Known n
all_known n h =
    let a : Bool = same_bool (is_start n.token.kind) (starts_word n.kind) in
    let b : Bool = same_bool (is_word_end n.token.kind) (same_kind n.kind kind.WordEnd) in
    let c : Bool = same_bool (is_operator n.token.kind) (same_kind n.kind kind.HereRedirect) in
    record {
      start = same_so (is_start n.token.kind) (starts_word n.kind) (and_left a (b && c) h);
      word_end = same_so (is_word_end n.token.kind) (same_kind n.kind kind.WordEnd) (and_left b c (and_right a (b && c) h));
      operator = same_so (is_operator n.token.kind) (same_kind n.kind kind.HereRedirect) (and_right b c (and_right a (b && c) h));
    }

-- ---- the word that a token ends

mapped_some : {X Y : Type 0} (f : X → Y) (o : Option X) → is_some (option_map f o) ≡ is_some o
mapped_some f None = refl
mapped_some f (Some x) = refl

word_of : (k : TokenKind) (text : List ℕ) (t : Token) (here : Option HereOperator) (last : Option Opening)
    → is_some (word_by k text t here last) ≡ ((is_some here && is_bare k) || (is_word_end k && inner_word last))
word_of token.Bare text t (Some operator) last = refl
word_of token.Bare text t None None = refl
word_of token.Bare text t None (Some o) = refl
word_of token.WordEnd text t None None = refl
word_of token.WordEnd text t (Some operator) None = refl
word_of token.WordEnd text t None (Some o) = mapped_some _ (operator_within o.opened)
word_of token.WordEnd text t (Some operator) (Some o) = mapped_some _ (operator_within o.opened)
word_of _ text t None None = refl
word_of _ text t None (Some o) = refl
word_of _ text t (Some operator) None = refl
word_of _ text t (Some operator) (Some o) = refl

and_same : (a b c : Bool) → (a ≡ true → b ≡ c) → (a && b) ≡ (a && c)
and_same true b c h = h refl
and_same false b c h = refl

-- the scanner tells what the tags do
pub ends_known : (m : Mode) (at : State) (n : Seen) (here inner : Bool) → Facts m n → is_some at.here ≡ here → inner_word (innermost at.source.openings) ≡ inner → (here ≡ true → m ≡ mode.Condition)
    → ends_here_word at n ≡ words.ends_here_word n.kind here inner
ends_known m at n here inner f eh ei c =
    let k = all_known n f.knows in
    word_of n.token.kind (text_of at) n.token at.here (innermost at.source.openings)
    ∙ (ap (λ h. (h && is_bare n.token.kind) || (is_word_end n.token.kind && inner_word (innermost at.source.openings))) eh
    ∙ (ap (λ x. x || (is_word_end n.token.kind && inner_word (innermost at.source.openings)))
    (and_same here (is_bare n.token.kind) (is_plain_word n.kind) (λ h. same_so (is_bare n.token.kind) (is_plain_word n.kind) (f.word (c h))))
    ∙ (ap (λ e. (here && is_plain_word n.kind) || (e && inner_word (innermost at.source.openings))) k.word_end
    ∙ ap (λ i. (here && is_plain_word n.kind) || (same_kind n.kind kind.WordEnd && i)) ei)))

-- ---- what a token opens

opened_so : (k : TokenKind) (here : Option HereOperator) → is_word (opened_by k here) ≡ (is_some here && is_start k)
opened_so token.OpenQuote None = refl
opened_so token.OpenQuote (Some o) = refl
opened_so token.Start None = refl
opened_so token.Start (Some o) = refl
opened_so _ None = refl
opened_so _ (Some o) = refl

pub opened_known : (at : State) (n : Seen) (here : Bool) → knows n.token.kind n.kind ≡ true → is_some at.here ≡ here → is_word (opened_by n.token.kind at.here) ≡ (here && starts_word n.kind)
opened_known at n here f e =
    opened_so n.token.kind at.here ∙ (ap (λ h. h && is_start n.token.kind) e ∙ ap (λ s. here && s) (all_known n f).start)

-- ---- the operator

operator_so : (text : List ℕ) (t : Token) (k : TokenKind) → is_some (operator_by text t k) ≡ is_operator k
operator_so text t (token.Redirect redirection.HereTabs d) = refl
operator_so text t (token.Redirect redirection.HereDocument d) = refl
operator_so text t (token.Redirect _ d) = refl
operator_so text t _ = refl

pub operator_known : (at : State) (n : Seen) → knows n.token.kind n.kind ≡ true → is_some (operator_of (text_of at) n.token) ≡ same_kind n.kind kind.HereRedirect
operator_known at n f = operator_so (text_of at) n.token n.token.kind ∙ (all_known n f).operator

-- ---- bodies that are awaited

pub awaits_one : (w : Option (HereOperator × List ℕ)) (l : Lexing) → is_some w ≡ true → length (awaiting w l).2 ≡ suc (length l.2)
awaits_one None l h = cc
awaits_one (Some w) l h = omega (arith, length-append l.2 (document w ∷ []))

pub awaits_none : (w : Option (HereOperator × List ℕ)) (l : Lexing) → is_some w ≡ false → length (awaiting w l).2 ≡ length l.2
awaits_none None l h = refl
awaits_none (Some w) l h = cc
