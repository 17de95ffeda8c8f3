-- Where the names of functions stand.
use Rattle.std.specs.Prelude.{◌≡◌, ℕ, Bool, true, false, List, [], ◌∷◌, ◌++◌}
use Rattle.std.proofs.Common.{refl, sym, ◌∙◌, ap, subst, append_assoc, append-nil}
use Rattle.ksh_ast.specs.declared.redirect.Redirect.{Redirect}
use Rattle.ksh_ast.specs.declared.tree.Argument.{Argument}
use Rattle.ksh_ast.specs.declared.tree.Argument.TheVariants as argument
use Rattle.ksh_ast.specs.declared.tree.Assign.{Assign}
use Rattle.ksh_ast.specs.declared.tree.Piece.{Piece}
use Rattle.ksh_ast.specs.declared.tree.Piece.TheVariants as piece
use Rattle.tree_build.specs.Frame.{Frame}
use Rattle.tree_build.specs.Frame.{Simple, Value}
use Rattle.tree_build.specs.Fits.{Is, IsNameEntry, IsNames}
use Rattle.tree_build.specs.Reads.{EndsWithFunction, IsWordOf, are_breaks}
use Rattle.tree_parts.specs.declared.entry.Entry.{Entry}
use Rattle.tree_parts.specs.declared.entry.Entry.TheVariants as entry
use Rattle.tree_parts.specs.Literals.{literal}
use Rattle.tree_parts.specs.Parts.{all_names, names_of}
use Rattle.tree_moves.specs.Tags as tag
use Rattle.tree_build.specs.Names.{IsOneWord, StandsBehind}
use Rattle.tree_build.specs.Loads.{top}

pub one_word : (given : List Assign) (words front : List Argument) (redirects : List (Redirect (List Piece))) (word : List Piece) → given ≡ [] → redirects ≡ [] → words ≡ front ++ argument.Word word ∷ [] → front ≡ []
    → IsOneWord given words redirects word
one_word given words front redirects word g r w f = (g, w ∙ ap (λ ws. ws ++ argument.Word word ∷ []) f, r)

one_piece : (text : List ℕ) → (text ≡ [] → ⊥) → piece.Literal text false ∷ [] ≡ literal text false
one_piece [] h = absurd (h refl)
one_piece (b ∷ bs) h = refl

pub one_literal : (word front : List Piece) (text : List ℕ) → word ≡ front ++ piece.Literal text false ∷ [] → front ≡ [] → (text ≡ [] → ⊥) → word ≡ literal text false
one_literal word front text w f t = w ∙ ap (λ ps. ps ++ piece.Literal text false ∷ []) f ∙ one_piece text t

-- one more newline or `;`
pub one_more_break : (all left rest gap : List Entry) → all ≡ left ++ gap → left ≡ rest ++ entry.Break ∷ [] → all ≡ rest ++ entry.Break ∷ gap
one_more_break all left rest gap a l = a ∙ ap (λ es. es ++ gap) l ∙ append_assoc rest (entry.Break ∷ []) gap

pub stands_behind : (all left rest gap : List Entry) (e : Entry) → all ≡ left ++ gap → left ≡ rest ++ e ∷ [] → are_breaks gap ≡ true → StandsBehind all rest e
stands_behind all left rest gap e a l g = (gap, a ∙ ap (λ es. es ++ gap) l ∙ append_assoc rest (e ∷ []) gap, g)

pub ends_with_function : (all middle front : List Entry) (named : Entry) (word : List Piece) (name_text word_text : List ℕ) (from : ℕ) (names : List (List ℕ))
    → StandsBehind all middle named → middle ≡ front ++ entry.Word word from ∷ [] → IsWordOf named name_text → word ≡ literal word_text false → names ≡ names_of name_text
    → EndsWithFunction all front from names
ends_with_function all middle front named word name_text word_text from names s m n w ns = (
  word_text,
  named,
  name_text,
  s.0,
  s.1 ∙ ap (λ es. es ++ named ∷ s.0) (m ∙ ap (λ ps. front ++ entry.Word ps from ∷ []) w) ∙ append_assoc front (entry.Word (literal word_text false) from ∷ []) (named ∷ s.0),
  n,
  s.2,
  ns,
)

pub ends_with : (all middle front : List Entry) (named last : Entry) (word : List Piece) (name_text word_text : List ℕ) (from : ℕ) (names : List (List ℕ))
    → StandsBehind all middle named → middle ≡ front ++ last ∷ [] → last ≡ entry.Word word from → IsWordOf named name_text → word ≡ literal word_text false → names ≡ names_of name_text
    → EndsWithFunction all front from names
ends_with all middle front named last word name_text word_text from names s m l n w ns =
    ends_with_function all middle front named word name_text word_text from names s (m ∙ ap (λ x. front ++ x ∷ []) l) n w ns

pub named_by : (old left : List Frame) (from line : ℕ) (given : List Assign) (words : List Argument) (redirects : List (Redirect (List Piece))) (word : List Piece) (text : List ℕ)
    → old ≡ Simple from line given words redirects ∷ left → IsOneWord given words redirects word → word ≡ literal text false → old ≡ Simple from line [] (argument.Word (literal text false) ∷ []) [] ∷ left
named_by old left from line given words redirects word text o i w =
    o ∙ ap (λ gs. Simple from line gs words redirects ∷ left) i.0 ∙ ap (λ ws. Simple from line [] ws redirects ∷ left) i.1
    ∙ ap (λ ps. Simple from line [] (argument.Word ps ∷ []) redirects ∷ left) w ∙ ap (λ rs. Simple from line [] (argument.Word (literal text false) ∷ []) rs ∷ left) i.2

-- ---- where no function is named

-- one item is the last of a list
pub one_behind : {A : Type 0} (front : List A) (x y : A) → front ++ x ∷ [] ≡ y ∷ [] → (front ≡ []) × (x ≡ y)
one_behind [] x y h = (refl, cc)
one_behind (z ∷ []) x y h = absurd cc
one_behind (z ∷ w ∷ zs) x y h = absurd cc

pub last_same : {A : Type 0} (front back : List A) (x y : A) → front ++ x ∷ [] ≡ back ++ y ∷ [] → (front ≡ back) × (x ≡ y)
last_same [] [] x y h = (refl, cc)
last_same [] (w ∷ []) x y h = absurd cc
last_same [] (w ∷ v ∷ ws) x y h = absurd cc
last_same (z ∷ []) [] x y h = absurd cc
last_same (z ∷ v ∷ zs) [] x y h = absurd cc
last_same (z ∷ zs) (w ∷ ws) x y h =
    let head : z ≡ w = cc in
    let tail : zs ++ x ∷ [] ≡ ws ++ y ∷ [] = cc in
    let same = last_same zs ws x y tail in
    (ap (λ v. v ∷ zs) head ∙ ap (λ vs. w ∷ vs) same.0, same.1)

pub none_last : {A : Type 0} (front : List A) (x : A) → [] ≡ front ++ x ∷ [] → ⊥
none_last [] x h = absurd cc
none_last (y ∷ front) x h = absurd cc

-- a simple command that is one word
pub word_alone : (given : List Assign) (words front : List Argument) (redirects : List (Redirect (List Piece))) (word : List Piece) (a : Argument)
    → IsOneWord given words redirects word → words ≡ front ++ a ∷ [] → (front ≡ []) × (a ≡ argument.Word word)
word_alone given words front redirects word a one w = one_behind front a (argument.Word word) (sym w ∙ one.1)

pub word_there : (given : List Assign) (words : List Argument) (redirects : List (Redirect (List Piece))) (word : List Piece) → IsOneWord given words redirects word → words ≡ [] → ⊥
word_there given words redirects word one w = none_last [] (argument.Word word) (sym w ∙ one.1)

-- literals are their bytes
pub literal_same : (a b : List ℕ) → literal a false ≡ literal b false → a ≡ b
literal_same [] [] h = refl
literal_same (x ∷ xs) [] h = absurd cc
literal_same [] (y ∷ ys) h = absurd cc
literal_same (x ∷ xs) (y ∷ ys) h = cc

names_there : (bytes : List ℕ) → all_names (names_of bytes) ≡ true → bytes ≡ [] → ⊥
names_there [] h e = absurd cc
names_there (b ∷ bs) h e = absurd cc

pub names_literal : (ps : List Piece) → IsNames ps → (text : List ℕ) × (ps ≡ piece.Literal text false ∷ []) × (text ≡ [] → ⊥) × (all_names (names_of text) ≡ true)
names_literal ps ([], is, all) = absurd cc
names_literal ps (b ∷ bs, is, all) = (b ∷ bs, is, names_there (b ∷ bs) all, all)

-- a word that is names is one literal
pub names_alone : (word front : List Piece) (p : Piece) → IsNames word → word ≡ front ++ p ∷ [] → (text : List ℕ) × (front ≡ []) × (p ≡ piece.Literal text false) × (text ≡ [] → ⊥)
names_alone word front p is w =
    let one = names_literal word is in
    let same = one_behind front p (piece.Literal one.0 false) (sym w ∙ one.1) in
    (one.0, same.0, same.1, one.2)

pub names_not_none : (word : List Piece) → IsNames word → word ≡ [] → ⊥
names_not_none word is w =
    let one = names_literal word is in
    none_last [] (piece.Literal one.0 false) (sym w ∙ one.1)

-- a word that is names is no other
pub names_not_more : (word front : List Piece) (p : Piece) → IsNames word → word ≡ front ++ p ∷ [] → (front ≡ [] → ⊥) → ⊥
names_not_more word front p is w more = let one = names_alone word front p is w in more one.1

pub names_not_other : (word front : List Piece) (p : Piece) → IsNames word → word ≡ front ++ p ∷ [] → ((text : List ℕ) (quoted : Bool) → p ≡ piece.Literal text quoted → ⊥) → ⊥
names_not_other word front p is w other = let one = names_alone word front p is w in other one.0 false one.2

not_quoted : (p : Piece) (text bytes : List ℕ) (quoted : Bool) → p ≡ piece.Literal bytes quoted → quoted ≡ true → p ≡ piece.Literal text false → ⊥
not_quoted p text bytes quoted e q e' = absurd cc

same_text : (p : Piece) (text bytes : List ℕ) (quoted : Bool) → p ≡ piece.Literal bytes quoted → p ≡ piece.Literal text false → bytes ≡ text
same_text p text bytes quoted e e' = cc

pub names_not_quoted : (word front : List Piece) (p : Piece) (bytes : List ℕ) (quoted : Bool) → IsNames word → word ≡ front ++ p ∷ [] → p ≡ piece.Literal bytes quoted → quoted ≡ true → ⊥
names_not_quoted word front p bytes quoted is w l q = let one = names_alone word front p is w in not_quoted p one.0 bytes quoted l q one.2

pub names_not_empty : (word front : List Piece) (p : Piece) (bytes : List ℕ) (quoted : Bool) → IsNames word → word ≡ front ++ p ∷ [] → p ≡ piece.Literal bytes quoted → bytes ≡ [] → ⊥
names_not_empty word front p bytes quoted is w l e = let one = names_alone word front p is w in one.3 (sym (same_text p one.0 bytes quoted l one.2) ∙ e)

pub one_plain : (word front : List Piece) (p : Piece) (bytes : List ℕ) (quoted : Bool) → word ≡ front ++ p ∷ [] → p ≡ piece.Literal bytes quoted → quoted ≡ false → front ≡ [] → (bytes ≡ [] → ⊥) → word ≡ literal bytes false
one_plain word front p bytes quoted w l q f t = one_literal word front bytes (w ∙ ap (λ x. front ++ x ∷ []) (l ∙ ap (λ b. piece.Literal bytes b) q)) f t

-- the name of a function is names
pub names_by : (word : List Piece) (name : List ℕ) → all_names (names_of name) ≡ true → word ≡ literal name false → IsNames word
names_by word name all w = (name, w, all)

-- the literal of a word that is names
pub names_of_word : (word : List Piece) (text : List ℕ) → IsNames word → word ≡ literal text false → all_names (names_of text) ≡ true
names_of_word word text is w =
    let same : is.0 ≡ text = literal_same is.0 text (sym is.1 ∙ w) in
    subst (λ bytes. all_names (names_of bytes) ≡ true) same is.2

-- what names a function is no newline or `;`
pub no_break : (e : Entry) (name : List ℕ) → IsWordOf e name → e ≡ entry.Break → ⊥
no_break (entry.Word ps at) name is e = absurd cc
no_break entry.Typeset name is e = absurd cc
no_break (entry.Assign a) name is e = absurd cc
no_break (entry.Pair a) name is e = absurd cc
no_break (entry.Function a) name is e = absurd cc
no_break entry.Break name is e = is

break_last : (front gap : List Entry) (e : Entry) → are_breaks (front ++ e ∷ gap) ≡ true → e ≡ entry.Break
break_last [] gap (entry.Word ps at) h = absurd cc
break_last [] gap entry.Typeset h = absurd cc
break_last [] gap (entry.Assign a) h = absurd cc
break_last [] gap (entry.Pair a) h = absurd cc
break_last [] gap (entry.Function a) h = absurd cc
break_last [] gap entry.Break h = refl
break_last (entry.Word ps at ∷ front) gap e h = absurd cc
break_last (entry.Typeset ∷ front) gap e h = absurd cc
break_last (entry.Assign a ∷ front) gap e h = absurd cc
break_last (entry.Pair a ∷ front) gap e h = absurd cc
break_last (entry.Function a ∷ front) gap e h = absurd cc
break_last (entry.Break ∷ front) gap e h = break_last front gap e h

-- one entry only stands before the newlines and `;` at the end
behind_same : (f1 f2 g1 g2 : List Entry) (a b : Entry) → f1 ++ a ∷ g1 ≡ f2 ++ b ∷ g2 → are_breaks g1 ≡ true → are_breaks g2 ≡ true → (a ≡ entry.Break → ⊥) → (b ≡ entry.Break → ⊥) → (f1 ≡ f2) × (a ≡ b)
behind_same [] [] g1 g2 a b h h1 h2 na nb = (refl, cc)
behind_same [] (y ∷ f2) g1 g2 a b h h1 h2 na nb =
    let tail : g1 ≡ f2 ++ b ∷ g2 = cc in
    absurd (nb (break_last f2 g2 b (ap (λ es. are_breaks es) (sym tail) ∙ h1)))
behind_same (x ∷ f1) [] g1 g2 a b h h1 h2 na nb =
    let tail : f1 ++ a ∷ g1 ≡ g2 = cc in
    absurd (na (break_last f1 g1 a (ap (λ es. are_breaks es) tail ∙ h2)))
behind_same (x ∷ f1) (y ∷ f2) g1 g2 a b h h1 h2 na nb =
    let head : x ≡ y = cc in
    let tail : f1 ++ a ∷ g1 ≡ f2 ++ b ∷ g2 = cc in
    let same = behind_same f1 f2 g1 g2 a b tail h1 h2 na nb in
    (ap (λ v. v ∷ f1) head ∙ ap (λ vs. y ∷ vs) same.0, same.1)

pub word_same : (e : Entry) (a b : List ℕ) → IsWordOf e a → IsWordOf e b → a ≡ b
word_same (entry.Word ps at) a b h k = literal_same a b (sym h ∙ k)
word_same entry.Typeset a b h k = h ∙ sym k
word_same (entry.Assign x) a b h k = absurd h
word_same (entry.Pair x) a b h k = absurd h
word_same (entry.Function x) a b h k = absurd h
word_same entry.Break a b h k = absurd h

-- newlines and `;` name nothing
pub never_breaks : (es : List Entry) → are_breaks es ≡ true → Is tag.ValueBroken (Value es) → ⊥
never_breaks es h b = no_break b.3 b.4 b.7 (break_last (b.0 ++ b.2 ∷ []) b.1 b.3 (ap (λ fs. are_breaks fs) (append_assoc b.0 (b.2 ∷ []) (b.3 ∷ b.1) ∙ sym b.5) ∙ h))

-- before the name stands a word that is names
abbrev pub IsNamed : List Entry → Entry → Type 0
IsNamed before e = (front : List Entry) × (word : List Piece) × (at : ℕ) × (name : List ℕ) × (before ≡ front ++ entry.Word word at ∷ []) × IsNames word × IsWordOf e name × (all_names (names_of name) ≡ true)

pub named_behind : (es before : List Entry) (e : Entry) → StandsBehind es before e → (e ≡ entry.Break → ⊥) → Is tag.ValueBroken (Value es) → IsNamed before e
named_behind es before e s n b =
    let same = behind_same before (b.0 ++ b.2 ∷ []) s.0 b.1 e b.3 (sym s.1 ∙ b.5 ∙ sym (append_assoc b.0 (b.2 ∷ []) (b.3 ∷ b.1))) s.2 b.9 n (no_break b.3 b.4 b.7) in
    (b.0, b.6.0, b.6.1, b.4, same.0 ∙ ap (λ x. b.0 ++ x ∷ []) b.6.2, b.6.3, subst (λ x. IsWordOf x b.4) (sym same.1) b.7, b.8)

-- where nothing stands before the name, or something else
pub named_first : (es before : List Entry) (e : Entry) → StandsBehind es before e → (e ≡ entry.Break → ⊥) → before ≡ [] → Is tag.ValueBroken (Value es) → ⊥
named_first es before e s n z b = let m = named_behind es before e s n b in none_last m.0 (entry.Word m.1 m.2) (sym z ∙ m.4)

pub named_other : (es before front : List Entry) (e x : Entry) → StandsBehind es before e → (e ≡ entry.Break → ⊥) → before ≡ front ++ x ∷ [] → ((word : List Piece) (at : ℕ) → x ≡ entry.Word word at → ⊥)
    → Is tag.ValueBroken (Value es) → ⊥
named_other es before front e x s n w never b =
    let m = named_behind es before e s n b in
    let same = last_same front m.0 x (entry.Word m.1 m.2) (sym w ∙ m.4) in
    never m.1 m.2 same.1

same_word : (x : Entry) (word word' : List Piece) (at at' : ℕ) → x ≡ entry.Word word at → x ≡ entry.Word word' at' → word' ≡ word
same_word x word word' at at' e e' = cc

pub named_quoted : (es before front : List Entry) (e x : Entry) (word : List Piece) (at : ℕ) → StandsBehind es before e → (e ≡ entry.Break → ⊥) → before ≡ front ++ x ∷ [] → x ≡ entry.Word word at → (IsNames word → ⊥)
    → Is tag.ValueBroken (Value es) → ⊥
named_quoted es before front e x word at s n w l never b =
    let m = named_behind es before e s n b in
    let same = last_same front m.0 x (entry.Word m.1 m.2) (sym w ∙ m.4) in
    never (subst (λ ps. IsNames ps) (same_word x word m.1 at m.2 l same.1) m.5)

pub named_nothing : (es before : List Entry) (e : Entry) → StandsBehind es before e → (e ≡ entry.Break → ⊥) → ((name : List ℕ) → all_names (names_of name) ≡ true → IsWordOf e name → ⊥)
    → Is tag.ValueBroken (Value es) → ⊥
named_nothing es before e s n never b = let m = named_behind es before e s n b in never m.3 m.7 m.6

no_names : (name text : List ℕ) → text ≡ name → all_names (names_of text) ≡ false → all_names (names_of name) ≡ true → ⊥
no_names name text e f t =
    let both : false ≡ true = sym f ∙ ap (λ x. all_names (names_of x)) e ∙ t in
    absurd cc

pub named_unnamed : (es before : List Entry) (e : Entry) (text : List ℕ) → StandsBehind es before e → (e ≡ entry.Break → ⊥) → IsWordOf e text → all_names (names_of text) ≡ false
    → Is tag.ValueBroken (Value es) → ⊥
named_unnamed es before e text s n k f b = let m = named_behind es before e s n b in no_names m.3 text (word_same e text m.3 k m.6) f m.7

-- the list on top of a stack
pub named_on_top : (stack rest : List (List Entry)) (es : List Entry) → stack ≡ es ∷ rest → (Is tag.ValueBroken (Value es) → ⊥) → Is tag.ValueBroken (Value (top [] stack)) → ⊥
named_on_top stack rest es o never b = never (subst (λ x. Is tag.ValueBroken (Value (top [] x))) o b)

-- one more entry behind those that name a function
pub typeset_again : (es : List Entry) → Is tag.ValueWord (Value es) → Is tag.ValueTypeset (Value (es ++ entry.Typeset ∷ []))
typeset_again es b = (b.0, b.1, ap (λ fs. fs ++ entry.Typeset ∷ []) b.2 ∙ append_assoc b.0 (b.1 ∷ []) (entry.Typeset ∷ []), b.3)

breaks_again : (gap : List Entry) → are_breaks gap ≡ true → are_breaks (gap ++ entry.Break ∷ []) ≡ true
breaks_again [] h = refl
breaks_again (entry.Word ps at ∷ gap) h = absurd cc
breaks_again (entry.Typeset ∷ gap) h = absurd cc
breaks_again (entry.Assign a ∷ gap) h = absurd cc
breaks_again (entry.Pair a ∷ gap) h = absurd cc
breaks_again (entry.Function a ∷ gap) h = absurd cc
breaks_again (entry.Break ∷ gap) h = breaks_again gap h

pub broken_again : (es : List Entry) → Is tag.ValueBroken (Value es) → Is tag.ValueBroken (Value (es ++ entry.Break ∷ []))
broken_again es b = (b.0, b.1 ++ entry.Break ∷ [], b.2, b.3, b.4, ap (λ fs. fs ++ entry.Break ∷ []) b.5 ∙ append_assoc b.0 (b.2 ∷ b.3 ∷ b.1) (entry.Break ∷ []), b.6, b.7, b.8, breaks_again b.1 b.9)
