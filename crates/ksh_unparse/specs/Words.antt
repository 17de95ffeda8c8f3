-- Words and their pieces.
use Rattle.std.specs.Prelude.{ℕ, ◌-◌, ◌==◌, not, take, length, slice_get, List, [], ◌∷◌, Bool, true, false, Option, Some, None, codes, if◌then◌else◌}
use Rattle.ksh_ast.specs.declared.kinds.Replaced.{Replaced}
use Rattle.ksh_ast.specs.declared.kinds.Replaced.TheVariants as replaced
use Rattle.ksh_ast.specs.declared.kinds.SubstKind.{SubstKind}
use Rattle.ksh_ast.specs.declared.kinds.SubstKind.TheVariants as subst
use Rattle.ksh_unparse.specs.Marks.{Put, say, line, quote, quote_mark, lines}

-- A piece in a word, and in the body of a here-document; whether it stands inside `"`; and its bytes where it is a literal without quotes.
pub record Spot : Type 0 where
  pub plain : Put
  pub inside : Bool
  pub body : Put
  pub bare : Option (List ℕ)

-- what stands before the parameter, and what behind it
pub record Form : Type 0 where
  pub front : Put
  pub tail : Put

abbrev pub body_put : List Spot → Put
body_put [] rest = rest
body_put (p ∷ ps) rest = p.body (body_put ps rest)

abbrev pub bare_text : Bool → List ℕ → Option (List ℕ)
bare_text true text = None
bare_text false text = Some text

abbrev pub is_backslash : Option ℕ → Bool
is_backslash None = false
is_backslash (Some b) = b == 92

abbrev pub ends_in_backslash : List ℕ → Bool
ends_in_backslash bytes = is_backslash (slice_get bytes (length bytes - 1))

-- Outside arithmetic a bare backslash ends a literal only where a script's text ends: it gets quotes, since it would quote what follows it.
abbrev pub bare_put : Bool → List ℕ → Put
bare_put false text rest = say text rest
bare_put true text rest = say (take (length text - 1) text) (say (codes "'\\'") rest)

abbrev pub literal_put : List ℕ → Bool → Put
literal_put text true = quote text
literal_put text false = bare_put (ends_in_backslash text) text

-- in arithmetic a bare literal is written as it is
abbrev pub as_it_is : Option (List ℕ) → Put → Put
as_it_is None put rest = put rest
as_it_is (Some text) put rest = say text rest

abbrev pub piece_put : Bool → Spot → Put
piece_put arithmetic p rest = if arithmetic then as_it_is p.bare p.plain rest else p.plain rest

-- where `"` opens or closes
abbrev pub turns : Bool → Bool → Bool
turns true inside = not inside
turns false inside = inside

-- Pieces, behind one that stands inside `"` or not: neighbours inside it share it, since each `"` that opens begins a literal.
abbrev pub pieces_put : Bool → Bool → List Spot → Put
pieces_put arithmetic behind_inside [] rest = quote_mark behind_inside rest
pieces_put arithmetic behind_inside (p ∷ ps) rest = quote_mark (turns behind_inside p.inside) (piece_put arithmetic p (pieces_put arithmetic p.inside ps rest))

abbrev pub word_put : List Spot → Put
word_put = pieces_put false false

-- the text of arithmetic that is expanded
abbrev pub arith_text_put : List Spot → Put
arith_text_put = pieces_put true false

abbrev pub subst_put : SubstKind → List Put → Put
subst_put subst.Current list rest = say (codes "${") (line (lines list (say (codes "}") rest)))
subst_put _ list rest = say (codes "$(") (line (lines list (say (codes ")") rest)))

abbrev pub number_put : Put → Put
number_put text rest = say (codes "$((") (text (say (codes "))") rest))

abbrev pub param_put : Form → Put → Put
param_put form of rest = say (codes "${") (form.front (of (form.tail (say (codes "}") rest))))

abbrev pub instead_bytes : Bool → List ℕ
instead_bytes colon = if colon then codes ":-" else codes "-"

abbrev pub assign_bytes : Bool → List ℕ
assign_bytes colon = if colon then codes ":=" else codes "="

abbrev pub fault_bytes : Bool → List ℕ
fault_bytes colon = if colon then codes ":?" else codes "?"

abbrev pub other_bytes : Bool → List ℕ
other_bytes colon = if colon then codes ":+" else codes "+"

abbrev pub cut_bytes : Bool → Bool → List ℕ
cut_bytes tail longest = if tail then (if longest then codes "%%" else codes "%") else (if longest then codes "##" else codes "#")

abbrev pub replace_bytes : Replaced → List ℕ
replace_bytes replaced.First = codes "/"
replace_bytes replaced.All = codes "//"
replace_bytes replaced.Front = codes "/#"
replace_bytes replaced.Tail = codes "/%"

-- what stands in place of a match; without it there is no second slash, which would make `/` of an empty pattern `//`
abbrev pub with_put : List Spot → Put
with_put [] rest = rest
with_put (p ∷ ps) rest = say (codes "/") (word_put (p ∷ ps) rest)

abbrev pub slice_put : Put → Option (List Spot) → Put
slice_put from None rest = say (codes ":") (from rest)
slice_put from (Some count) rest = say (codes ":") (from (say (codes ":") (word_put count rest)))
