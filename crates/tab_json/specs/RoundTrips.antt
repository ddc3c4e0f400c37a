-- Entities as JSON texts, and back.
use Rattle.std.specs.Prelude.{◌≡◌, ℕ, List, true, All, Some, Ok, Result}
use Rattle.tab_edm.specs.Entities.{IsEntity}
use Rattle.tab_edm.specs.Values.{IsProperty}
use Rattle.tab_keys.specs.KeyTexts.{IsKeyText}
use Rattle.tab_json.specs.Bodies.{entity_body}
use Rattle.tab_json.specs.Entities.{VersionView, entity_json}
use Rattle.tab_json.specs.declared.bodies.BodyEntity.{BodyEntity}
use Rattle.tab_json.specs.declared.bodies.JsonRefused.{JsonRefused}
use Rattle.tab_json.specs.declared.entities.JsonForm.{JsonForm}
use Rattle.tab_page.specs.declared.selects.Select.TheVariants as select

-- what each version is: its keys are keys, and its properties are those of an entity
pub record IsVersion (version : VersionView) : Type 0 where
  pub pk_units : ℕ
  pub rk_units : ℕ
  pub pk : IsKeyText version.pk
  pub rk : IsKeyText version.rk
  pub entity : IsEntity pk_units rk_units version.properties
  pub properties : All IsProperty version.properties

-- minimal metadata, and everything is asked for
abbrev pub whole_form : JsonForm
whole_form = record { minimal = true; select = select.All }

-- the text of an entity gives its keys and its properties
abbrev pub IsReadBack : List ℕ → List ℕ → VersionView → Type 0
IsReadBack account name version =
    ◌≡◌ {A = Result BodyEntity JsonRefused} (entity_body (entity_json account name whole_form version)) (Ok (record { pk = Some version.pk; rk = Some version.rk; properties = version.properties }))
