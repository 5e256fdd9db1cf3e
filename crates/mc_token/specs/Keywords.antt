-- The words that the grammar asks for by name, and what a parser asks of a token: MySQL 8.0 manual,
-- 9.3.
use Rattle.std.specs.Prelude.{ℕ, ◌==◌, Bool, true, false, List, [], ◌∷◌, Option, codes}
use Rattle.std.specs.Prelude.{length, find, if◌then◌else◌}
use Rattle.std.specs.Str.{bytes_eq}
use Rattle.mc_token.specs.declared.keyword.Keyword.{Keyword}
use Rattle.mc_token.specs.declared.keyword.Keyword.TheVariants.{Select, Distinct, From, Where}
use Rattle.mc_token.specs.declared.keyword.Keyword.TheVariants.{Group, By, Order, Asc, Desc, Limit}
use Rattle.mc_token.specs.declared.keyword.Keyword.TheVariants.{As, And, Or, Xor, Not, Is, Null}
use Rattle.mc_token.specs.declared.keyword.Keyword.TheVariants.{Like, In, Between, Collate, Div}
use Rattle.mc_token.specs.declared.keyword.Keyword.TheVariants.{Mod, Explain, Convert, Using, True}
use Rattle.mc_token.specs.declared.keyword.Keyword.TheVariants.{False, Character, Set, Char, Binary}
use Rattle.mc_token.specs.declared.keyword.Keyword.TheVariants.{Both, Leading, Trailing, For}
use Rattle.mc_token.specs.declared.keyword.Keyword.TheVariants.{Offset, Escape, Cast, Count, Trim}
use Rattle.mc_token.specs.declared.keyword.Keyword.TheVariants.{Substring, WeightString}

-- The spelling of a keyword, in lower case.
abbrev pub keyword_text : Keyword → List ℕ
keyword_text Select = codes "select"
keyword_text Distinct = codes "distinct"
keyword_text From = codes "from"
keyword_text Where = codes "where"
keyword_text Group = codes "group"
keyword_text By = codes "by"
keyword_text Order = codes "order"
keyword_text Asc = codes "asc"
keyword_text Desc = codes "desc"
keyword_text Limit = codes "limit"
keyword_text As = codes "as"
keyword_text And = codes "and"
keyword_text Or = codes "or"
keyword_text Xor = codes "xor"
keyword_text Not = codes "not"
keyword_text Is = codes "is"
keyword_text Null = codes "null"
keyword_text Like = codes "like"
keyword_text In = codes "in"
keyword_text Between = codes "between"
keyword_text Collate = codes "collate"
keyword_text Div = codes "div"
keyword_text Mod = codes "mod"
keyword_text Explain = codes "explain"
keyword_text Convert = codes "convert"
keyword_text Using = codes "using"
keyword_text True = codes "true"
keyword_text False = codes "false"
keyword_text Character = codes "character"
keyword_text Set = codes "set"
keyword_text Char = codes "char"
keyword_text Binary = codes "binary"
keyword_text Both = codes "both"
keyword_text Leading = codes "leading"
keyword_text Trailing = codes "trailing"
keyword_text For = codes "for"
keyword_text Offset = codes "offset"
keyword_text Escape = codes "escape"
keyword_text Cast = codes "cast"
keyword_text Count = codes "count"
keyword_text Trim = codes "trim"
keyword_text Substring = codes "substring"
keyword_text WeightString = codes "weight_string"

-- The keyword is a name only between backquotes.
abbrev pub is_reserved : Keyword → Bool
is_reserved Select = true
is_reserved Distinct = true
is_reserved From = true
is_reserved Where = true
is_reserved Group = true
is_reserved By = true
is_reserved Order = true
is_reserved Asc = true
is_reserved Desc = true
is_reserved Limit = true
is_reserved As = true
is_reserved And = true
is_reserved Or = true
is_reserved Xor = true
is_reserved Not = true
is_reserved Is = true
is_reserved Null = true
is_reserved Like = true
is_reserved In = true
is_reserved Between = true
is_reserved Collate = true
is_reserved Div = true
is_reserved Mod = true
is_reserved Explain = true
is_reserved Convert = true
is_reserved Using = true
is_reserved True = true
is_reserved False = true
is_reserved Character = true
is_reserved Set = true
is_reserved Char = true
is_reserved Binary = true
is_reserved Both = true
is_reserved Leading = true
is_reserved Trailing = true
is_reserved For = true
is_reserved _ = false

-- The keywords that have so many letters.
abbrev pub keywords_of_len : ℕ → List Keyword
keywords_of_len len =
    if len == 2 then As ∷ By ∷ In ∷ Is ∷ Or ∷ []
    else (if len == 3 then And ∷ Asc ∷ Div ∷ For ∷ Mod ∷ Not ∷ Set ∷ Xor ∷ []
    else (if len == 4 then Both ∷ Cast ∷ Char ∷ Desc ∷ From ∷ Like ∷ Null ∷ Trim ∷ True ∷ []
    else (if len == 5 then Count ∷ False ∷ Group ∷ Limit ∷ Order ∷ Using ∷ Where ∷ []
    else (if len == 6 then Binary ∷ Escape ∷ Offset ∷ Select ∷ []
    else (if len == 7 then Between ∷ Collate ∷ Convert ∷ Explain ∷ Leading ∷ []
    else (if len == 8 then Distinct ∷ Trailing ∷ []
    else (if len == 9 then Character ∷ Substring ∷ []
    else (if len == 13 then WeightString ∷ []
    else []))))))))

-- The keyword that a word is, where it is one.
unfoldable pub keyword_of : List ℕ → Option Keyword
keyword_of word =
    find (λ keyword. bytes_eq word (keyword_text keyword)) (keywords_of_len (length word))
