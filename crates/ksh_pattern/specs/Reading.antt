-- How marked bytes are read as a pattern: first as tokens, of which some are literal bytes after all, and then the tree
-- whose tokens these are.
use Rattle.std.specs.Prelude.{◌≡◌, ℕ, zero, suc, ◌+◌, ◌-◌, ◌==◌, List, [], ◌∷◌, ◌++◌, Bool, true, false, ◌&&◌, ◌||◌, not, nat_lt, nat_le, length, map, Option, Some, None, if◌then◌else◌, codes}
use Rattle.ksh_pattern.specs.declared.marked.Marked.{Marked}
use Rattle.ksh_pattern.specs.declared.byte_test.Class.{Class}
use Rattle.ksh_pattern.specs.declared.byte_test.Class.TheVariants.{Alnum, Alpha, Blank, Cntrl, Digit, Graph, Lower, Print, Punct, Space, Upper, Xdigit}
use Rattle.ksh_pattern.specs.declared.byte_test.Member.{Member}
use Rattle.ksh_pattern.specs.declared.byte_test.Member.TheVariants as member
use Rattle.ksh_pattern.specs.declared.byte_test.ByteTest.{ByteTest}
use Rattle.ksh_pattern.specs.declared.byte_test.ByteTest.TheVariants as test
use Rattle.ksh_pattern.specs.declared.part.Kind.{Kind}
use Rattle.ksh_pattern.specs.declared.part.Kind.TheVariants as kind
use Rattle.ksh_pattern.specs.declared.part.Part.{Part, Part-F, fold-Part}
use Rattle.ksh_pattern.specs.declared.token.Token.{Token}
use Rattle.ksh_pattern.specs.declared.token.Token.TheVariants as token

-- that byte, and not quoted
abbrev pub is_plain : ℕ → Marked → Bool
is_plain byte m = not m.quoted && m.byte == byte

-- the marked bytes begin with these, none quoted
abbrev pub spells : List ℕ → List Marked → Bool
spells [] ms = true
spells (b ∷ bs) [] = false
spells (b ∷ bs) (m ∷ ms) = is_plain b m && spells bs ms

-- a class by its text, with the length of that, or else another answer
abbrev pub named : List ℕ → Class → List Marked → Option (Class × ℕ) → Option (Class × ℕ)
named text class ms other = if spells text ms then Some (class, length text) else other

-- the class whose text stands behind a `[`
abbrev pub class_at : List Marked → Option (Class × ℕ)
class_at ms =
    named (codes ":alnum:]") Alnum ms (named (codes ":alpha:]") Alpha ms (named (codes ":blank:]") Blank ms
    (named (codes ":cntrl:]") Cntrl ms (named (codes ":digit:]") Digit ms (named (codes ":graph:]") Graph ms
    (named (codes ":lower:]") Lower ms (named (codes ":print:]") Print ms (named (codes ":punct:]") Punct ms
    (named (codes ":space:]") Space ms (named (codes ":upper:]") Upper ms (named (codes ":xdigit:]") Xdigit ms None)))))))))))

-- a byte, or the range from it, which a `-` and a byte that doesn't end the bracket make, and how many further bytes it has
abbrev pub range_at : ℕ → List Marked → Member × ℕ
range_at from [] = (member.Byte from, 0)
range_at from (dash ∷ []) = (member.Byte from, 0)
range_at from (dash ∷ to ∷ ms) =
    if is_plain 45 dash && not (is_plain 93 to) then (member.Range from to.byte, 2) else (member.Byte from, 0)

abbrev pub class_or : Option (Class × ℕ) → Member × ℕ → Member × ℕ
class_or (Some c) other = (member.Class c.0, c.1)
class_or None other = other

-- the member of a bracket that begins with a byte, and how many further bytes it has
abbrev pub member_at : Marked → List Marked → Member × ℕ
member_at m ms = if is_plain 91 m then class_or (class_at ms) (range_at m.byte ms) else range_at m.byte ms

abbrev pub Members : Type 0
Members = Option (List Member × ℕ)

-- the same behind some members and their bytes
abbrev pub behind : List Member → ℕ → Members → Members
behind xs n None = None
behind xs n (Some r) = Some (xs ++ r.0, n + r.1)

-- the members up to the `]` that ends the bracket, and the number of bytes with it; a `]` that comes first is a member;
-- the number skips bytes that belong to the last member
abbrev pub members_at : ℕ → Bool → List Marked → Members
members_at skip first [] = None
members_at (suc skip) first (m ∷ ms) = behind [] 1 (members_at skip false ms)
members_at zero first (m ∷ ms) =
    if is_plain 93 m && not first then Some ([], 1)
    else behind ((member_at m ms).0 ∷ []) 1 (members_at (member_at m ms).1 false ms)

-- a test and how many bytes behind the `[` it has
abbrev pub tested : Bool → ℕ → Members → Option (ByteTest × ℕ)
tested turned more None = None
tested turned more (Some r) = Some (test.Bracket turned r.0, more + r.1)

-- what stands behind a `[`: perhaps `!`, members, and the end
abbrev pub bracket_at : List Marked → Option (ByteTest × ℕ)
bracket_at [] = None
bracket_at (m ∷ ms) = if is_plain 33 m then tested true 1 (members_at 0 true ms) else tested false 0 (members_at 0 true (m ∷ ms))

-- whether an unquoted `(` comes next
abbrev pub opens : List Marked → Bool
opens ms = spells (40 ∷ []) ms

abbrev pub literal : ℕ → Token
literal byte = token.One (test.Is byte)

abbrev pub open_or : Kind → Token → List Marked → Token × ℕ
open_or k other ms = if opens ms then (token.Open k, 1) else (other, 0)

abbrev pub bracket_or : Option (ByteTest × ℕ) → Token × ℕ
bracket_or None = (literal 91, 0)
bracket_or (Some r) = (token.One r.0, r.1)

-- the token of an unquoted byte, and how many further bytes it has
abbrev pub plain_token : ℕ → List Marked → Token × ℕ
plain_token byte ms =
    if byte == 63 then open_or kind.Optional (token.One test.Any) ms
    else (if byte == 42 then open_or kind.Any token.AnyText ms
    else (if byte == 43 then open_or kind.Many (literal 43) ms
    else (if byte == 64 then open_or kind.One (literal 64) ms
    else (if byte == 33 then open_or kind.Not (literal 33) ms
    else (if byte == 124 then (token.Bar, 0)
    else (if byte == 41 then (token.Close, 0)
    else (if byte == 91 then bracket_or (bracket_at ms)
    else (literal byte, 0))))))))

abbrev pub token_at : Marked → List Marked → Token × ℕ
token_at m ms = if m.quoted then (literal m.byte, 0) else plain_token m.byte ms

-- all the tokens; the number skips bytes that belong to the last one
abbrev pub tokens_of : ℕ → List Marked → List Token
tokens_of skip [] = []
tokens_of (suc skip) (m ∷ ms) = tokens_of skip ms
tokens_of zero (m ∷ ms) = (token_at m ms).0 ∷ tokens_of (token_at m ms).1 ms

-- how many closings have no opening among the tokens
abbrev pub unopened : List Token → ℕ
unopened [] = 0
unopened (token.Close ∷ ts) = unopened ts + 1
unopened (token.Open k ∷ ts) = unopened ts - 1
unopened (t ∷ ts) = unopened ts

-- an opening as bytes: `?` and `*` keep their meaning
abbrev pub opening : Kind → List Token
opening kind.Optional = token.One test.Any ∷ literal 40 ∷ []
opening kind.Any = token.AnyText ∷ literal 40 ∷ []
opening kind.Many = literal 43 ∷ literal 40 ∷ []
opening kind.One = literal 64 ∷ literal 40 ∷ []
opening kind.Not = literal 33 ∷ literal 40 ∷ []

-- in so many groups, and behind so many openings that are too deep to be groups, the tokens with those in place of which
-- bytes stand: an opening without an end or in more than 64 groups, its bars and its closing, and what is outside of all groups
abbrev pub settled : ℕ → ℕ → List Token → List Token
settled groups deep [] = []
settled groups deep (token.Open k ∷ ts) =
    if nat_lt 0 (unopened ts)
    then (if nat_le groups 64 && deep == 0 then token.Open k ∷ settled (groups + 1) 0 ts else opening k ++ settled groups (deep + 1) ts)
    else opening k ++ settled groups deep ts
settled groups (suc deep) (token.Close ∷ ts) = literal 41 ∷ settled groups deep ts
settled (suc groups) zero (token.Close ∷ ts) = token.Close ∷ settled groups 0 ts
settled zero zero (token.Close ∷ ts) = literal 41 ∷ settled 0 0 ts
settled groups (suc deep) (token.Bar ∷ ts) = literal 124 ∷ settled groups (suc deep) ts
settled (suc groups) zero (token.Bar ∷ ts) = token.Bar ∷ settled (suc groups) 0 ts
settled zero zero (token.Bar ∷ ts) = literal 124 ∷ settled 0 0 ts
settled groups deep (t ∷ ts) = t ∷ settled groups deep ts

-- the tokens of alternatives, with bars between them, and the closing; without an alternative, a group would have no end
abbrev pub closed : List (List Token) → List Token
closed [] = []
closed (ts ∷ []) = ts ++ token.Close ∷ []
closed (ts ∷ us ∷ rest) = ts ++ token.Bar ∷ closed (us ∷ rest)

abbrev pub joined_tokens : List (List Token) → List Token
joined_tokens [] = []
joined_tokens (ts ∷ rest) = ts ++ joined_tokens rest

-- one level of a pattern, with the tokens of each part in its place
abbrev pub spelling_step : Part-F (List Token) → List Token
spelling_step (Part-F.One t) = token.One t ∷ []
spelling_step Part-F.AnyText = token.AnyText ∷ []
spelling_step (Part-F.Group k alternatives) = token.Open k ∷ closed (map joined_tokens alternatives)

abbrev pub part_spelling : Part → List Token
part_spelling = fold-Part (List Token) spelling_step

-- the tokens of a list of parts
abbrev pub spelling : List Part → List Token
spelling parts = joined_tokens (map part_spelling parts)

-- the parts are those that the marked bytes spell
abbrev pub IsReadAs : List Marked → List Part → Type 0
IsReadAs ms parts = spelling parts ≡ settled 0 0 (tokens_of 0 ms)
