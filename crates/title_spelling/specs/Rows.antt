-- The rows of a plant's file.
use Rattle.std.specs.{Prelude.{ℕ, ◌<◌, ◌^◌, ◌≡◌, ◌&&◌, not, Bool, true, List, [], ◌∷◌, codes}, Fmt.{decimal}, List.{list_all, list_any}}
use Rattle.std.specs.Str.{bytes_eq}
use Rattle.title_land.specs.{declared.survey.Township.{Township as SurveyTownship}, Texts.{township_text}}
use Rattle.title_chain.specs.declared.ask.Terms.{Terms}
use Rattle.title_plan.specs.Fields.{is_name}
use Rattle.title_spelling.specs.Posts.{post_fields, IsExaminer, IsPost}

-- `township,TEXT`
abbrev pub township_fields : SurveyTownship → List (List ℕ)
township_fields t = codes "township" ∷ township_text t ∷ []

-- `party,NAME`
abbrev pub party_fields : List ℕ → List (List ℕ)
party_fields name = codes "party" ∷ name ∷ []

-- `E,begin`
abbrev pub begin_fields : ℕ → List (List ℕ)
begin_fields e = decimal e ∷ codes "begin" ∷ []

-- `E,commit`
abbrev pub commit_fields : ℕ → List (List ℕ)
commit_fields e = decimal e ∷ codes "commit" ∷ []

-- `end,N`
abbrev pub end_fields : ℕ → List (List ℕ)
end_fields n = codes "end" ∷ decimal n ∷ []

-- a row of a plant's file
pub data PlantRow : Type 0 where
  Township : SurveyTownship → PlantRow
  Party : List ℕ → PlantRow
  Begin : ℕ → PlantRow
  Commit : ℕ → PlantRow
  Post : ℕ → Terms → PlantRow
  End : ℕ → PlantRow

-- its fields, among parties with these names
abbrev pub fields_of : List (List ℕ) → PlantRow → List (List ℕ)
fields_of names (Township t) = township_fields t
fields_of names (Party name) = party_fields name
fields_of names (Begin e) = begin_fields e
fields_of names (Commit e) = commit_fields e
fields_of names (Post e post) = post_fields names e post
fields_of names (End n) = end_fields n

-- the names are names, each of one party
abbrev pub each_once : List (List ℕ) → Bool
each_once [] = true
each_once (name ∷ names) = not (list_any (bytes_eq name) names) && each_once names

abbrev pub are_names : List (List ℕ) → Bool
are_names names = list_all is_name names && each_once names

-- a row that may stand in a plant's file, among parties with these names
abbrev pub IsPlantRow : List (List ℕ) → PlantRow → Type 0
IsPlantRow names (Township t) = Unit {0}
IsPlantRow names (Party name) = is_name name ≡ true
IsPlantRow names (Begin e) = IsExaminer e
IsPlantRow names (Commit e) = IsExaminer e
IsPlantRow names (Post e post) = IsPost names e post
IsPlantRow names (End n) = n < 2 ^ 64
