-- What a whole word of plain bytes is for the grammar.
use Rattle.std.specs.Prelude.{ℕ, Bool, true, false, ◌||◌, ◌&&◌, ◌==◌, not, List, [], ◌∷◌, length, take, drop, Option, Some, None, if◌then◌else◌, codes, bytes_eq}
use Rattle.ksh_lexer.specs.Bytes.{in_name}
use Rattle.ksh_lexer.specs.Names.{is_path}
use Rattle.ksh_syntax.specs.declared.kind.Kind.{Kind}
use Rattle.ksh_syntax.specs.declared.kind.Kind.TheVariants as kind

-- one of more than four letters that the grammar knows
abbrev pub long_known : List ℕ → Option Kind
long_known w =
    if bytes_eq w (codes "while") then Some kind.While else
    if bytes_eq w (codes "until") then Some kind.Until else
    if bytes_eq w (codes "function") then Some kind.Function else
    if bytes_eq w (codes "select") then Some kind.Select else
    if bytes_eq w (codes "namespace") then Some kind.Namespace else
    if bytes_eq w (codes "typeset") then Some kind.Typeset else
    None

-- one of at most four
abbrev pub short_known : List ℕ → Option Kind
short_known w =
    if bytes_eq w (codes "if") then Some kind.If else
    if bytes_eq w (codes "then") then Some kind.Then else
    if bytes_eq w (codes "else") then Some kind.Else else
    if bytes_eq w (codes "elif") then Some kind.Elif else
    if bytes_eq w (codes "fi") then Some kind.Fi else
    if bytes_eq w (codes "case") then Some kind.Case else
    if bytes_eq w (codes "esac") then Some kind.Esac else
    if bytes_eq w (codes "for") then Some kind.For else
    if bytes_eq w (codes "do") then Some kind.Do else
    if bytes_eq w (codes "done") then Some kind.Done else
    if bytes_eq w (codes "{") then Some kind.LeftBrace else
    if bytes_eq w (codes "}") then Some kind.RightBrace else
    if bytes_eq w (codes "[[") then Some kind.LeftBrackets else
    if bytes_eq w (codes "!") then Some kind.Bang else
    if bytes_eq w (codes "]]") then Some kind.RightBrackets else
    if bytes_eq w (codes "in") then Some kind.In else
    if bytes_eq w (codes "time") then Some kind.Time else
    None

abbrev pub or_known : Option Kind → Option Kind → Option Kind
or_known (Some k) other = Some k
or_known None other = other

-- a word that the grammar knows by its letters
abbrev pub known : List ℕ → Option Kind
known w = or_known (short_known w) (long_known w)

-- the name of a test of one word, and of one of two words
abbrev pub test : List ℕ → Option Kind
test w =
    if bytes_eq w (codes "-n") then Some kind.Unary else
    if bytes_eq w (codes "-z") then Some kind.Unary else
    if bytes_eq w (codes "-a") then Some kind.Unary else
    if bytes_eq w (codes "-e") then Some kind.Unary else
    if bytes_eq w (codes "-f") then Some kind.Unary else
    if bytes_eq w (codes "-d") then Some kind.Unary else
    if bytes_eq w (codes "-r") then Some kind.Unary else
    if bytes_eq w (codes "-w") then Some kind.Unary else
    if bytes_eq w (codes "-x") then Some kind.Unary else
    if bytes_eq w (codes "-s") then Some kind.Unary else
    if bytes_eq w (codes "-o") then Some kind.Unary else
    if bytes_eq w (codes "-v") then Some kind.Unary else
    if bytes_eq w (codes "=") then Some kind.Binary else
    if bytes_eq w (codes "==") then Some kind.Binary else
    if bytes_eq w (codes "!=") then Some kind.Binary else
    if bytes_eq w (codes "-eq") then Some kind.Binary else
    if bytes_eq w (codes "-ne") then Some kind.Binary else
    if bytes_eq w (codes "-lt") then Some kind.Binary else
    if bytes_eq w (codes "-le") then Some kind.Binary else
    if bytes_eq w (codes "-gt") then Some kind.Binary else
    if bytes_eq w (codes "-ge") then Some kind.Binary else
    None

abbrev pub has_dot : List ℕ → Bool
has_dot [] = false
has_dot (b ∷ bs) = b == 46 || has_dot bs

-- the bytes before the first that stands in no path
abbrev pub path_front : List ℕ → List ℕ
path_front [] = []
path_front (b ∷ bs) = if in_name b || b == 46 then b ∷ path_front bs else []

-- `=` or `+=` stands in front
abbrev pub assigns : List ℕ → Bool
assigns [] = false
assigns (b ∷ bs) = b == 61 || (b == 43 && begins_equal bs)
  where
    begins_equal : List ℕ → Bool
    begins_equal [] = false
    begins_equal (c ∷ cs) = c == 61

-- it begins with a path and `=` or `+=`
abbrev pub is_assignment : List ℕ → Bool
is_assignment w = is_path (path_front w) && assigns (drop (length (path_front w)) w)

abbrev pub or_kind : Option Kind → Kind → Kind
or_kind (Some k) l = k
or_kind None l = l

-- what the bytes are, where assignments are looked for or not
abbrev pub shape : Bool → List ℕ → Kind
shape looks w =
    if is_path w then (if has_dot w then kind.Dotted else kind.Name) else
    if looks && is_assignment w then kind.Assignment else or_kind (test w) kind.Other

abbrev pub word_kind : Bool → List ℕ → Kind
word_kind looks w = or_kind (known w) (shape looks w)
