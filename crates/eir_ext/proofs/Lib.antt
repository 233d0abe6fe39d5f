mod StartLaws
mod ForeignLaws
mod StageLaws
mod TurnLaws
mod VerdictLaws
