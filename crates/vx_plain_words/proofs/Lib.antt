mod FormLaws
mod LocalLaws
