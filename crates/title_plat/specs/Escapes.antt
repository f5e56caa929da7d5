-- Text as it stands in XML (W3C, Extensible Markup Language 1.0, 2.2 and 2.4).
use Rattle.std.specs.Prelude.{ℕ, ◌==◌, ◌&&◌, ◌||◌, not, Bool, List, codes, cond, encode_utf8, flat_map, nat_lt}

-- XML forbids the character: a control character that is no tab, line feed or carriage return, U+FFFE and U+FFFF
abbrev pub is_forbidden : ℕ → Bool
is_forbidden c = (((nat_lt c 32 && not (c == 9)) && not (c == 10)) && not (c == 13)) || c == 65534 || c == 65535

-- a character as it stands in XML: an entity for each of the five that XML gives a meaning, U+FFFD for one that it forbids
abbrev pub escape_of : ℕ → List ℕ
escape_of c =
    cond (c == 38) (codes "&amp;")
    (cond (c == 60) (codes "&lt;")
    (cond (c == 62) (codes "&gt;")
    (cond (c == 34) (codes "&quot;")
    (cond (c == 39) (codes "&apos;")
    (cond (is_forbidden c) (encode_utf8 65533)
    (encode_utf8 c))))))

-- the characters of a text as they stand in XML, one after another
abbrev pub escapes : List ℕ → List ℕ
escapes characters = flat_map escape_of characters
