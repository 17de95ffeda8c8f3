-- What becomes of the state by a token that was read.
use Rattle.std.specs.Prelude.{ℕ, suc, ◌+◌, Bool, true, false, not, ◌==◌, List, [], ◌∷◌, ◌++◌, take, Option, Some, None, option_map, is_some, if◌then◌else◌}
use Rattle.ksh_lexer.specs.declared.here.Body.{Body}
use Rattle.ksh_lexer.specs.declared.here.HereDocument.{HereDocument}
use Rattle.ksh_lexer.specs.declared.kind.Token.{Token}
use Rattle.ksh_lexer.specs.declared.kind.TokenKind.{TokenKind}
use Rattle.ksh_lexer.specs.declared.kind.TokenKind.TheVariants as token
use Rattle.ksh_lexer.specs.declared.kind.Redirection.TheVariants.{HereTabs, HereDocument as HereOperation}
use Rattle.ksh_lexer.specs.Awaited.{Lexing}
use Rattle.ksh_lexer.specs.EndWord.{end_word, is_quoted}
use Rattle.ksh_syntax.specs.declared.part.Mark.{Mark}
use Rattle.ksh_syntax.specs.declared.part.Mark.TheVariants as mark
use Rattle.ksh_scan.specs.declared.opening.HereOperator.{HereOperator}
use Rattle.ksh_scan.specs.declared.opening.Opened.{Opened}
use Rattle.ksh_scan.specs.declared.opening.Opened.TheVariants.{HereWord}
use Rattle.ksh_scan.specs.declared.opening.Opening.{Opening}
use Rattle.ksh_scan.specs.declared.see.Seen.{Seen}
use Rattle.ksh_scan.specs.declared.state.Source.{Source}
use Rattle.ksh_scan.specs.declared.state.State.{State}
use Rattle.ksh_scan.specs.Openings.{innermost, opened_by, parted_by, told_all}
use Rattle.ksh_scan.specs.Seeing.{slice, text_of}

-- how many bytes stand before the first `<`
abbrev pub before_less : List ℕ → ℕ
before_less [] = 0
before_less (b ∷ bs) = if b == 60 then 0 else suc (before_less bs)

-- the operator of a here-document, which a digit or `{name}` may precede in its token
abbrev pub operator_by : List ℕ → Token → TokenKind → Option HereOperator
operator_by text t (token.Redirect HereTabs d) = Some (record { byte = t.from + before_less (slice text t.from t.to); tabs = true })
operator_by text t (token.Redirect HereOperation d) = Some (record { byte = t.from + before_less (slice text t.from t.to); tabs = false })
operator_by text t _ = None

abbrev pub operator_of : List ℕ → Token → Option HereOperator
operator_of text t = operator_by text t t.kind

abbrev pub operator_within : Opened → Option HereOperator
operator_within (HereWord operator) = Some operator
operator_within _ = None

-- the word of a here-document, where the token ends it: a whole word behind the operator, or what was opened last
abbrev pub word_by : TokenKind → List ℕ → Token → Option HereOperator → Option Opening → Option (HereOperator × List ℕ)
word_by token.Bare text t (Some operator) last = Some (operator, slice text t.from t.to)
word_by token.WordEnd text t here (Some o) = option_map (λ operator. (operator, slice text o.byte t.from)) (operator_within o.opened)
word_by _ text t here last = None

-- the token ends the word of a here-document
abbrev pub ends_here_word : State → Seen → Bool
ends_here_word s n = is_some (word_by n.token.kind (text_of s) n.token s.here (innermost s.source.openings))

abbrev pub document : HereOperator × List ℕ → HereDocument
document w = record { operator = w.0.byte; word = end_word w.1; tabs = w.0.tabs; expands = not (is_quoted w.1) }

-- behind the word of a here-document its body is awaited
abbrev pub awaiting : Option (HereOperator × List ℕ) → Lexing → Lexing
awaiting None l = l
awaiting (Some w) l = (l.0, l.1, l.2 ++ document w ∷ [])

abbrev pub tells_command_word : List Mark → Bool
tells_command_word [] = false
tells_command_word (mark.CommandWord ∷ marks) = true
tells_command_word (_ ∷ marks) = tells_command_word marks

-- the place of a token that begins a command and can't name a function
abbrev pub command_word : List Mark → Seen → Option ℕ
command_word marks n = if tells_command_word marks then Some n.token.from else None

abbrev pub body_source : List ℕ → Body → Source
body_source text b = record { lexer = (take b.to text, b.from, []); tabs = b.tabs; expands = b.expands; openings = [] }

-- where a body was taken, it is read next
abbrev pub entered : Option Body → State → State
entered None s = s
entered (Some b) s = record s { source = body_source (text_of s) b; outer = s.outer ++ s.source ∷ [] }

-- what is open behind a token, and the bodies that are awaited
abbrev pub source_after : Option HereOperator → Seen → List Mark → Source → Source
source_after here n marks s = record s {
  lexer = awaiting (word_by n.token.kind s.lexer.0 n.token here (innermost s.openings)) s.lexer;
  openings = parted_by n.kind n.token.to (told_all marks (record { opened = opened_by n.token.kind here; byte = n.token.from; part = n.token.to; is_later = false }) s.openings);
}

abbrev pub after : State → Seen → List Mark → State
after s n marks = entered n.body (record s {
  source = source_after s.here n marks s.source;
  here = operator_of (text_of s) n.token;
  command_word = command_word marks n;
})
