-- Redirections, conditions and commands.
use Rattle.std.specs.Prelude.{ℕ, ◌||◌, List, [], ◌∷◌, Bool, false, Option, Some, None, codes, bytes_eq, decimal, if◌then◌else◌}
use Rattle.ksh_ast.specs.declared.kinds.BinaryTest.{BinaryTest}
use Rattle.ksh_ast.specs.declared.kinds.BinaryTest.TheVariants as binary
use Rattle.ksh_ast.specs.declared.kinds.UnaryTest.{UnaryTest}
use Rattle.ksh_ast.specs.declared.kinds.UnaryTest.TheVariants as unary
use Rattle.ksh_ast.specs.declared.redirect.Redirect.{Redirect}
use Rattle.ksh_ast.specs.declared.redirect.RedirectForm.{RedirectForm}
use Rattle.ksh_ast.specs.declared.redirect.RedirectForm.TheVariants as form
use Rattle.ksh_ast.specs.declared.redirect.RedirectTo.{RedirectTo}
use Rattle.ksh_ast.specs.declared.redirect.RedirectTo.TheVariants as to
use Rattle.ksh_ast.specs.declared.tree.Arm.{Arm}
use Rattle.ksh_ast.specs.declared.tree.FunctionDef.{FunctionDef}
use Rattle.ksh_ast.specs.declared.tree.Link.{Link}
use Rattle.ksh_ast.specs.declared.tree.Pair.{Pair}
use Rattle.ksh_unparse.specs.Marks.{Put, say, line, begin_body, end_body, lines, alone, behind, between}
use Rattle.ksh_unparse.specs.Words.{Spot, word_put, body_put}

-- a word of a command, and whether it is a reserved word without quotes
pub record Told : Type 0 where
  pub put : Put
  pub reserved : Bool

abbrev pub blank : List ℕ
blank = codes " "

-- ---- redirections

abbrev pub to_put : RedirectTo → Put
to_put to.Usual rest = rest
to_put (to.Digit d) rest = say (decimal d) rest
to_put (to.Var name) rest = say (codes "{") (say name (say (codes "}") rest))

abbrev pub form_put : RedirectForm → List Spot → Put
form_put form.Read word rest = say (codes "<") (word_put word rest)
form_put form.Write word rest = say (codes ">") (word_put word rest)
form_put form.Clobber word rest = say (codes ">|") (word_put word rest)
form_put form.Append word rest = say (codes ">>") (word_put word rest)
form_put form.ReadWrite word rest = say (codes "<>") (word_put word rest)
form_put form.DupInput word rest = say (codes "<&") (word_put word rest)
form_put form.DupOutput word rest = say (codes ">&") (word_put word rest)
form_put form.HereString word rest = say (codes "<<<") (word_put word rest)
form_put (form.HereDoc end) word rest = begin_body (body_put word (end_body rest))

abbrev pub redirect_put : Redirect (List Spot) → Put
redirect_put r rest = to_put r.to (form_put r.form r.word rest)

abbrev pub redirects_put : List (Redirect (List Spot)) → Put
redirects_put [] rest = rest
redirects_put (r ∷ rs) rest = say blank (redirect_put r (redirects_put rs rest))

-- ---- assignments

abbrev pub pair_put : Pair (List Spot) → Put
pair_put p rest = say (codes "[") (word_put p.subscript (say (codes "]=") (word_put p.value rest)))

abbrev pub pairs_behind : List (Pair (List Spot)) → Put
pairs_behind [] rest = rest
pairs_behind (p ∷ ps) rest = say blank (pair_put p (pairs_behind ps rest))

abbrev pub pairs_put : List (Pair (List Spot)) → Put
pairs_put [] rest = rest
pairs_put (p ∷ ps) rest = pair_put p (pairs_behind ps rest)

abbrev pub words_behind : List ℕ → List (List Spot) → Put
words_behind bytes [] rest = rest
words_behind bytes (w ∷ ws) rest = say bytes (word_put w (words_behind bytes ws rest))

abbrev pub words_between : List ℕ → List (List Spot) → Put
words_between bytes [] rest = rest
words_between bytes (w ∷ ws) rest = word_put w (words_behind bytes ws rest)

abbrev pub arguments_put : List Told → Put
arguments_put [] rest = rest
arguments_put (w ∷ ws) rest = say blank (w.put (arguments_put ws rest))

abbrev pub arguments_between : List Told → Put
arguments_between [] rest = rest
arguments_between (w ∷ ws) rest = w.put (arguments_put ws rest)

abbrev pub equals : Bool → List ℕ
equals append = if append then codes "+=" else codes "="

abbrev pub names_behind : List (List ℕ) → Put
names_behind [] rest = rest
names_behind (n ∷ ns) rest = say (codes ".") (say n (names_behind ns rest))

abbrev pub names_put : List (List ℕ) → Put
names_put [] rest = rest
names_put (n ∷ ns) rest = say n (names_behind ns rest)

abbrev pub function_put : FunctionDef (List Put) → Put
function_put d rest =
    if d.own_scope
    then say (codes "function ") (names_put d.name (say blank (alone d.body rest)))
    else names_put d.name (say (codes "() ") (alone d.body rest))

-- ---- conditions

abbrev pub unary_bytes : UnaryTest → List ℕ
unary_bytes unary.NotEmpty = codes "-n "
unary_bytes unary.Empty = codes "-z "
unary_bytes unary.Exists = codes "-e "
unary_bytes unary.Plain = codes "-f "
unary_bytes unary.Folder = codes "-d "
unary_bytes unary.Readable = codes "-r "
unary_bytes unary.Writable = codes "-w "
unary_bytes unary.Runnable = codes "-x "
unary_bytes unary.HasBytes = codes "-s "
unary_bytes unary.OptionOn = codes "-o "
unary_bytes unary.IsSet = codes "-v "

abbrev pub binary_bytes : BinaryTest → List ℕ
binary_bytes binary.Matches = codes " == "
binary_bytes binary.Differs = codes " != "
binary_bytes binary.Before = codes " < "
binary_bytes binary.After = codes " > "
binary_bytes binary.Equal = codes " -eq "
binary_bytes binary.NotEqual = codes " -ne "
binary_bytes binary.Less = codes " -lt "
binary_bytes binary.LessEqual = codes " -le "
binary_bytes binary.Greater = codes " -gt "
binary_bytes binary.GreaterEqual = codes " -ge "

-- all of them
abbrev pub terms_put : List Put → Put
terms_put = between (codes " && ")

-- one of those
abbrev pub condition_behind : List (List Put) → Put
condition_behind [] rest = rest
condition_behind (t ∷ ts) rest = say (codes " || ") (terms_put t (condition_behind ts rest))

abbrev pub condition_put : List (List Put) → Put
condition_put [] rest = rest
condition_put (t ∷ ts) rest = terms_put t (condition_behind ts rest)

-- ---- commands

-- a keyword, and a list that begins on the next line
abbrev pub section : List ℕ → List Put → Put
section keyword list rest = say keyword (line (lines list rest))

abbrev pub arm_put : List ℕ → Arm (List Put) → Put
arm_put keyword arm rest = section keyword arm.test (section (codes "then") arm.body rest)

abbrev pub elifs_put : List (Arm (List Put)) → Put
elifs_put [] rest = rest
elifs_put (a ∷ more) rest = arm_put (codes "elif") a (elifs_put more rest)

abbrev pub arms_put : List (Arm (List Put)) → Put
arms_put [] rest = rest
arms_put (a ∷ more) rest = arm_put (codes "if") a (elifs_put more rest)

abbrev pub else_put : Option (List Put) → Put
else_put None rest = rest
else_put (Some list) rest = section (codes "else") list rest

abbrev pub do_put : List Put → Put
do_put body rest = section (codes "do") body (say (codes "done") rest)

abbrev pub loop_bytes : Bool → List ℕ
loop_bytes until = if until then codes "until " else codes "while "

abbrev pub in_put : Option (List (List Spot)) → Put
in_put None rest = line rest
in_put (Some words) rest = say (codes " in") (words_behind blank words (line rest))

abbrev pub item_end : Bool → List ℕ
item_end falls = if falls then codes ";&" else codes ";;"

abbrev pub stages_behind : List (List Put) → Put
stages_behind [] rest = rest
stages_behind (m ∷ ms) rest = say (codes " |") (line (alone m (stages_behind ms rest)))

abbrev pub stages_put : List (List Put) → Put
stages_put [] rest = rest
stages_put (m ∷ ms) rest = alone m (stages_behind ms rest)

abbrev pub link_bytes : Bool → List ℕ
link_bytes or = if or then codes " ||" else codes " &&"

abbrev pub links_put : List (Link Put) → Put
links_put [] rest = rest
links_put (l ∷ ls) rest = say (link_bytes l.or) (line (l.command (links_put ls rest)))

abbrev pub background_bytes : Bool → List ℕ
background_bytes coprocess = if coprocess then codes " |&" else codes " &"

abbrev pub assigns_put : List Put → Put
assigns_put = behind blank

-- Redirections stand last, but before a reserved word that is a command's first word: there it is a plain word.
abbrev pub simple_put : List Put → List Told → List (Redirect (List Spot)) → Put
simple_put (a ∷ more) words redirects rest = a (assigns_put more (arguments_put words (redirects_put redirects rest)))
simple_put [] [] [] rest = rest
simple_put [] [] (r ∷ rs) rest = redirect_put r (redirects_put rs rest)
simple_put [] (w ∷ ws) [] rest = w.put (arguments_put ws rest)
simple_put [] (w ∷ ws) (r ∷ rs) rest =
    if w.reserved
    then redirect_put r (redirects_put rs (arguments_put (w ∷ ws) rest))
    else w.put (arguments_put ws (redirects_put (r ∷ rs) rest))

-- the reserved words of `if` and `case`
abbrev pub is_branch_bytes : List ℕ → Bool
is_branch_bytes w =
    bytes_eq w (codes "if") || (bytes_eq w (codes "then") || (bytes_eq w (codes "else") || (bytes_eq w (codes "elif")
    || (bytes_eq w (codes "fi") || (bytes_eq w (codes "case") || bytes_eq w (codes "esac"))))))

-- those of loops
abbrev pub is_loop_bytes : List ℕ → Bool
is_loop_bytes w =
    bytes_eq w (codes "for") || (bytes_eq w (codes "while") || (bytes_eq w (codes "until") || (bytes_eq w (codes "select")
    || (bytes_eq w (codes "do") || bytes_eq w (codes "done")))))

-- the others
abbrev pub is_other_bytes : List ℕ → Bool
is_other_bytes w =
    bytes_eq w (codes "{") || (bytes_eq w (codes "}") || (bytes_eq w (codes "[[") || (bytes_eq w (codes "!")
    || (bytes_eq w (codes "time") || (bytes_eq w (codes "function") || bytes_eq w (codes "namespace"))))))

abbrev pub is_reserved_bytes : List ℕ → Bool
is_reserved_bytes w = is_branch_bytes w || (is_loop_bytes w || is_other_bytes w)

-- one literal without quotes, which is a reserved word
abbrev pub is_reserved_spot : Option (List ℕ) → Bool
is_reserved_spot None = false
is_reserved_spot (Some text) = is_reserved_bytes text

abbrev pub is_reserved : List Spot → Bool
is_reserved (p ∷ []) = is_reserved_spot p.bare
is_reserved _ = false
