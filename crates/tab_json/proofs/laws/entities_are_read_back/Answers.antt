use Rattle.tab_json.specs.Entities.{version_of}
use Rattle.tab_json.proofs.RoundTripLaws.{kept_version, read_back}
use Rattle.tab_json.proofs.laws.entities_are_read_back.Goals as goal

pub returns-clause-versions : goal.returns-clause-versions
returns-clause-versions c = λ account name version account_text name_text is. read_back account name version is account_text name_text

pub returns-clause-rows : goal.returns-clause-rows
returns-clause-rows c = λ account name row account_text name_text kept. read_back account name (version_of row) (kept_version row kept) account_text name_text
