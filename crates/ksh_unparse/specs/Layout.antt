-- A text as marks, and how they are laid out.
use Rattle.std.specs.Prelude.{ℕ, zero, suc, ◌+◌, ◌==◌, ◌&&◌, ◌||◌, Bool, true, false, List, [], ◌∷◌, ◌++◌, length, codes, decimal, if◌then◌else◌}
use Rattle.ksh_unparse.specs.declared.paper.Frame.{Frame}

-- Bytes; the end of a line, behind which the bodies of the here-documents before it stand; and the
-- body of a here-document, whose marks are those from its Open to its Close, where its operator stands.
pub data Mark : Type 0 where
  Bytes : List ℕ → Mark
  Line : Mark
  Open : Mark
  Close : Mark

-- the word is all that is left of the line
abbrev pub is_line : List ℕ → List ℕ → Bool
is_line [] [] = true
is_line [] (b ∷ bs) = b == 10
is_line (w ∷ ws) [] = false
is_line (w ∷ ws) (b ∷ bs) = b == w && is_line ws bs

-- the word, which isn't empty, is a line of the text; `start` says whether the text begins where a line does
abbrev pub has_line : List ℕ → Bool → List ℕ → Bool
has_line word start [] = false
has_line word start (b ∷ bs) = (start && is_line word (b ∷ bs)) || has_line word (b == 10) bs

-- `E0`, `E1`, ..
abbrev pub end_word : ℕ → List ℕ
end_word n = 69 ∷ decimal n

-- the first of these from the n-th on that is no line of the body; `more` of them are tried
abbrev pub end_from : ℕ → ℕ → List ℕ → ℕ
end_from zero n body = n
end_from (suc more) n body = if has_line (end_word n) true body then end_from more (n + 1) body else n

-- a body of so many bytes has fewer lines than that, so one of them is none
abbrev pub end_of : List ℕ → List ℕ
end_of body = end_word (end_from (length body) 0 body)

-- the body, and the line that ends it
abbrev pub ended : List ℕ → List ℕ
ended body = body ++ end_of body ++ 10 ∷ []

-- The text that marks make behind a text, the bodies awaited there, and the texts in whose here-documents
-- it stands.
abbrev pub laid : List Mark → List ℕ → List ℕ → List Frame → List ℕ
laid [] text awaited outer = text
laid (Bytes b ∷ ms) text awaited outer = laid ms (text ++ b) awaited outer
laid (Line ∷ ms) text awaited outer = laid ms (text ++ 10 ∷ awaited) [] outer
laid (Open ∷ ms) text awaited outer = laid ms [] [] (record { text = text; awaited = awaited } ∷ outer)
laid (Close ∷ ms) body inner [] = laid ms body inner []
laid (Close ∷ ms) body inner (f ∷ outer) = laid ms (f.text ++ codes "<<" ++ end_of body) (f.awaited ++ ended body) outer
